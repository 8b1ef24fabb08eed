use mathlib.Core.Path.{◌≡◌, ap, ◌∙◌}
use mathlib.Core.List.{List}
use Prim.Native.Nat.{ℕ, ◌+◌}
use native.Mathlib.Omega.{arith}
use lib.ListN.{set, get_or}
use Rattle.mem.specs.Moves.{shifted_down}
use Rattle.mem.proofs.Moved.{down_none, down_more}
use Rattle.mem.proofs.moves.shift_down.Goals as goal

pub loop-i-init : goal.loop-i-init
loop-i-init c = down_none c.args.from c.args.by c.args.a.now

pub loop-i-preserved : goal.loop-i-preserved
loop-i-preserved c =
    let l = c.loop-i in
    ap (λ (x : List ℕ). set x (c.args.from + l.i) (get_or x (c.args.from + c.args.by + l.i) 0)) l.invariant
    ∙ down_more c.args.from c.args.by l.i c.args.a.now (omega arith)

pub returns : goal.returns
returns c =
    let e : c.loop-i.i ≡ c.args.n = omega arith in
    c.loop-i.invariant ∙ ap (λ (n : ℕ). shifted_down c.args.from c.args.by n c.args.a.now) e
