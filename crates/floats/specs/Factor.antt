-- The factors of a decay. Assumes nothing.
use Rattle.std.specs.Prelude.{T, Float}
use Rattle.std.specs.Float.Ieee.{le}
use Rattle.std.specs.Float.Ieee.Positive.{positive}
use Rattle.rules.specs.Counts.{one}

-- above 0 and at most 1
pub record Factor (d : Float) : Type 0 where
  pub above_zero : T (positive d)
  pub at_most_one : T (le d one)
