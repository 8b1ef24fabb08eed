use lib.Ieee.{binary64, mul}
use Rattle.lists.proofs.Upto.{Going}
use Rattle.decay.proofs.decay_row.Given as goal

abbrev pub invariant-loop-count : goal.invariant-loop-count
invariant-loop-count l = Going (λ v. mul binary64 v l.factor) 25 l.initial.count-items l.count-items l.count-index
