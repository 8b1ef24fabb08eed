use mathlib.Core.Path.{◌≡◌, ap, ◌∙◌}
use mathlib.Core.List.{List}
use Prim.Native.Nat.{ℕ, ◌+◌, ◌-◌}
use native.Mathlib.Omega.{arith}
use lib.ListN.{set, get_or}
use Rattle.mem.specs.Moves.{shifted_up}
use Rattle.mem.proofs.Moved.{up_none, up_more}
use Rattle.mem.proofs.moves.shift_up.Goals as goal

pub loop-i-init : goal.loop-i-init
loop-i-init c = (omega arith, up_none c.args.to c.args.by c.args.a.now)

pub loop-i-preserved : goal.loop-i-preserved
loop-i-preserved c =
    let l = c.loop-i in
    let e : l.i ≡ l.i - 1 + 1 = omega arith in (
      omega arith,
      ap (λ (x : List ℕ). set x (l.i - 1 + c.args.by) (get_or x (l.i - 1) 0)) (l.invariant.1 ∙ ap (λ (n : ℕ). shifted_up n c.args.to c.args.by c.args.a.now) e)
          ∙ up_more (l.i - 1) c.args.to c.args.by c.args.a.now (omega arith) (omega arith),
    )

pub returns : goal.returns
returns c =
    let l = c.loop-i in
    let e : l.i ≡ c.args.from = omega arith in
    l.invariant.1 ∙ ap (λ (n : ℕ). shifted_up n c.args.to c.args.by c.args.a.now) e
