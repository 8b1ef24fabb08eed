-- What the answer of the reading says of the tables. Assumes nothing.
use Rattle.std.specs.Prelude.{List, ℕ, ◌+◌, ◌*◌, Option, Some, None}
use Rattle.kinds.specs.Answers.{corrupt}
use Rattle.format.specs.Parts.{Parsed, bad, good}
use Rattle.format.specs.File.{Version, Tables}
use Rattle.tables.specs.Places.{pendings, recents}
use Rattle.tables.specs.declared.Sizes.{Sizes}

-- the tables of the bytes s from `at` on
abbrev pub tables_say : Version → Option Sizes → List ℕ → ℕ → Parsed Tables
tables_say v None s at = bad corrupt
tables_say v (Some r) s at =
    good (record { pending = pendings v s (at + 4) r.pending; recent = recents s (at + 4 + r.pending * v.records.size + 4) r.recent })
