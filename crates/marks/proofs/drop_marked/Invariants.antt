-- `marks::drop_marked` meets its contract. Assumes nothing.
use Rattle.marks.proofs.Dropping.{Dropping}
use Rattle.marks.proofs.drop_marked.Given as goal

abbrev pub invariant-loop-i : goal.invariant-loop-i
invariant-loop-i l = Dropping l.size l.used l.marks l.initial.table l.k l.i l.table
