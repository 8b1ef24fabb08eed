use mathlib.Core.Path.{ap}
use Prim.Native.Nat.{ℕ}
use native.Mathlib.Omega.{arith}
use lib.Dec.{leb}
use borrow.Author.Tests.{le-leb, lt-leb}
use Rattle.rules.specs.Lists.{bit}
use Rattle.lists.proofs.Loop.{step, stop}
use Rattle.room.proofs.Counting.{all_high, high_next, high_end}
use Rattle.room.proofs.count.count_staying.Goals as goal
use Rattle.room.proofs.count.count_staying.Goals.{then-low-height_at, else-low-height_at}

pub returns-then-low-eq0 : goal.returns-then-low-eq0
returns-then-low-eq0 c = all_high c.args.least.0 _ _ c.if-low-eq0.true

pub loop-i-preserved : goal.loop-i-preserved
loop-i-preserved c =
    let low : ℕ = c.args.least.0 in
    step _ _ c.if-low-height_at.n (leb low c.height_at.result.0) c.loop-i.invariant (omega arith)
    (elim c.if-low-height_at.branch [ then-low-height_at w ↦ omega (arith, w.n-is, ap bit (le-leb low c.height_at.result.0 w.if-low-height_at.true)) | else-low-height_at w ↦ omega (arith, w.n-is, ap bit (lt-leb low c.height_at.result.0 w.if-low-height_at.false)) ])
    (high_next low _ _ c.loop-i.i c.height_at.result.0 (omega arith) c.height_at.ensures)

pub returns : goal.returns
returns c =
    stop _ _ c.loop-i.invariant (high_end _ _ _ c.loop-i.i (omega arith))
