-- `settle::renew_all` meets its contract. The invariant: placing the records from number `i` on is what is left to do.
-- Assumes nothing.
use Rattle.settle.proofs.Renewing.{Renewing}
use Rattle.settle.proofs.renew.renew_all.Given as goal

abbrev pub invariant-loop-i : goal.invariant-loop-i
invariant-loop-i l = Renewing l.size l.used l.n l.initial.table l.src l.table l.i
