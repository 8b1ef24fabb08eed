-- `settle::drop_repeats` meets its contract. The invariant: those kept so far, and what the rest will add, are what all of them come to.
-- Assumes nothing.
use Rattle.settle.proofs.Thinning.{Thinning}
use Rattle.settle.proofs.once.drop_repeats.Given as goal

abbrev pub invariant-loop-i : goal.invariant-loop-i
invariant-loop-i l = Thinning l.size l.used l.initial.table l.table l.k l.i
