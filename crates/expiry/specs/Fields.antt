-- Tests and changes of the fields of a record. Assumes nothing.
use Rattle.std.specs.Prelude.{ℕ, ◌-◌, ◌/◌, min, Bool, cond, List, ltb}
use Rattle.rules.specs.Counts.{columns}
use Rattle.rules.specs.Board.{pending_of}
use Rattle.table.specs.Fields.{field, with_field}

-- the field at `off` passes the test
abbrev pub passing : ℕ → (ℕ → Bool) → List ℕ → Bool
passing off passes r = passes (field off r)

-- resolved-through stands at byte 40 of a pending record
abbrev pub through_at : ℕ
through_at = 40

-- what a pending record has outwaited at height h, on a board of the given width
abbrev pub reach : ℕ → ℕ → List ℕ → ℕ
reach width h r = min columns ((h - (pending_of r).entry) / width)

-- resolved-through moves up to what the record has outwaited
unfoldable pub raised : ℕ → ℕ → List ℕ → List ℕ
raised width h r = cond (ltb (pending_of r).through (reach width h r)) (with_field through_at (reach width h r) r) r

-- a record is not resolved through the last column
abbrev pub waiting : List ℕ → Bool
waiting r = ltb (pending_of r).through columns
