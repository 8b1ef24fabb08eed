-- `expiry::expire_all` meets its contract. The invariant: what is left to count, from here, gives what the whole gives, and the records before `i` are raised.
-- Assumes nothing.
use Rattle.rules.specs.Board.{board_of}
use Rattle.expiry.specs.Fields.{raised}
use Rattle.expiry.proofs.Changing.{Changing}
use Rattle.expiry.proofs.Expiry.{Going}
use Rattle.expiry.proofs.expire_all.Given as goal

abbrev pub invariant-loop-i : goal.invariant-loop-i
invariant-loop-i l =
    Going (board_of l.on) l.h.0 l.used l.initial.pending l.initial.resolved l.resolved l.i × Changing (raised (board_of l.on).width l.h.0) (board_of l.on).table.size l.used l.initial.pending l.i l.pending
