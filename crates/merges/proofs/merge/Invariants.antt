-- `merges::merge` meets its contract. Assumes nothing.
use Rattle.merges.proofs.Turns.{Merging}
use Rattle.merges.proofs.merge.Given as goal

abbrev pub invariant-loop-j : goal.invariant-loop-j
invariant-loop-j l = Merging l.size l.used l.kept l.fresh l.h.0 l.table l.marks l.initial.recent l.recent l.n l.left l.j
