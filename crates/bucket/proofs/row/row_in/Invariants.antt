use mathlib.Core.Path.{◌≡◌}
use lib.Seq.{paste}
use Rattle.bucket.proofs.row.row_in.Given as goal

abbrev pub invariant-loop-i : goal.invariant-loop-i
invariant-loop-i l = l.counts ≡ paste l.initial.counts l.at l.row l.i
