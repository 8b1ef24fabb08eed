-- `settles::settle_all` meets its contract. Assumes nothing.
use Rattle.rules.specs.Board.{board_of}
use Rattle.rules.specs.Memory.{lent}
use Rattle.settles.proofs.Passing.{Passed}
use Rattle.settles.proofs.settle_all.Given as goal

abbrev pub invariant-loop-i : goal.invariant-loop-i
invariant-loop-i l =
    Passed (board_of l.on) l.h.0 l.used l.kept (lent l.initial.confirmed l.initial.resolved l.pending l.initial.recent) l.initial.marks l.i (lent l.confirmed l.resolved l.pending l.recent) l.marks
