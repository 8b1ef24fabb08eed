-- The decay of a count and of one row, for one height or for many. Assumes nothing.
use Rattle.std.specs.Prelude.{ℕ, zero, suc, map, Float}
use Rattle.std.specs.Float.{binary64}
use Rattle.std.specs.Float.Ieee.{mul}
use Rattle.rules.specs.Counts.{Counts, columns}
use Rattle.lists.specs.Part.{part, part_put}

-- a count multiplied by the factor n times, each time rounded
unfoldable pub often : ℕ → Float → Float → Float
often zero factor x = x
often (suc n) factor x = mul binary64 (often n factor x) factor

-- the counts of one kind, those of bucket b multiplied by the factor n times
abbrev pub row_decayed : ℕ → Float → ℕ → Counts → Counts
row_decayed b factor n xs = part_put columns b (map (often n factor) (part columns b xs)) xs
