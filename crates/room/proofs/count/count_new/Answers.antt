use mathlib.Core.Path.{ap}
use native.Mathlib.Omega.{arith}
use Rattle.rules.specs.Lists.{bit}
use Rattle.rules.specs.Board.{board_of}
use Rattle.lists.proofs.Loop.{step, stop}
use Rattle.room.proofs.Counting.{new_next, new_end}
use Rattle.room.proofs.count.count_new.Goals as goal
use Rattle.room.proofs.count.count_new.Goals.{then-adds_one, else-adds_one}

pub loop-i-preserved : goal.loop-i-preserved
loop-i-preserved c =
    step _ _ c.if-adds_one.n c.adds_one.result c.loop-i.invariant (omega arith)
    (elim c.if-adds_one.branch [ then-adds_one w ↦ omega (arith, w.n-is, ap bit w.if-adds_one.true) | else-adds_one w ↦ omega (arith, w.n-is, ap bit w.if-adds_one.false) ])
    (new_next (board_of c.args.on) _ _ _ _ c.loop-i.i c.adds_one.result (omega arith) c.requires.used_in_bounds c.adds_one.ensures)

pub returns : goal.returns
returns c =
    stop _ _ c.loop-i.invariant (new_end _ _ _ _ _ c.loop-i.i (omega arith))
