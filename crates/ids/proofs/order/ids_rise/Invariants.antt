-- `ids::ids_rise` meets its contract. The invariant, `Climb`: the ids rise exactly if those from the record before `i` on do, and `last` is that record's first word.
-- Assumes nothing.
use Rattle.ids.proofs.Climb.{Climb}
use Rattle.ids.proofs.order.ids_rise.Given as goal

abbrev pub invariant-loop-i : goal.invariant-loop-i
invariant-loop-i l = Climb l.size l.used l.table l.last l.i
