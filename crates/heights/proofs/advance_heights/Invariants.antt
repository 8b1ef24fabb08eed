-- Memory holds the estimator after the heights passed. Assumes nothing.
use Rattle.rules.specs.Board.{board_of}
use Rattle.rules.specs.Memory.{lent}
use Rattle.heights.proofs.Skip.{Going}
use Rattle.heights.proofs.advance_heights.Given as goal

abbrev pub invariant-loop-i : goal.invariant-loop-i
invariant-loop-i l =
    Going (board_of l.on) l.from l.count l.initial.s (lent l.initial.confirmed l.initial.resolved l.initial.pending l.initial.recent) l.s (lent l.confirmed l.resolved l.pending l.recent) l.i
