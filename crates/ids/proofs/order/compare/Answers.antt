-- `ids::order::compare` meets its contract: a turn's two double words decide, or what is left after them. Assumes nothing.
use mathlib.Core.Path.{◌≡◌, refl, sym, ◌∙◌}
use Prim.Native.Nat.{◌+◌, ◌*◌}
use native.Mathlib.Omega.{arith}
use lib.ListN.{drop}
use borrow.Author.Tests.{lt-ltb, le-ltb}
use borrow.Author.Rules.{rules}
use Rattle.ids.specs.Search.{cmp}
use Rattle.ids.proofs.Ids.{id32, cmp_end}
use Rattle.ids.proofs.First.{step, double_turn}
use Rattle.ids.proofs.order.compare.Goals as goal
use Rattle.ids.proofs.order.compare.Goals.{After-double_word-y}

told : (c : After-double_word-y)
    → cmp (id32 c.args.p c.args.a.now) (id32 c.args.q c.args.b.now)
    ≡ step c.double_word-x.result c.double_word-y.result (cmp (drop (8 * c.loop-k.k + 8) (id32 c.args.p c.args.a.now)) (drop (8 * c.loop-k.k + 8) (id32 c.args.q c.args.b.now)))
told c =
    c.loop-k.invariant
    ∙ double_turn c.args.a.now c.args.p c.args.b.now c.args.q c.requires.0 c.requires.1 (λ i. search rules) (λ i. search rules) (8 * c.loop-k.k) (omega arith)
    ∙ rw (c.double_word-x.ensures, c.double_word-y.ensures) refl

pub loop-k-init : goal.loop-k-init
loop-k-init c = refl

pub returns-then-x-y : goal.returns-then-x-y
returns-then-x-y c = sym (told (goal.at.returns-then-x-y c).After-double_word-y ∙ simp (lt-ltb _ _ c.if-x-y.true))

pub returns-then-y-x : goal.returns-then-y-x
returns-then-y-x c = sym (told (goal.at.returns-then-y-x c).After-double_word-y ∙ simp (le-ltb _ _ c.if-x-y.false, lt-ltb _ _ c.if-y-x.true))

pub loop-k-preserved : goal.loop-k-preserved
loop-k-preserved c =
    let e : 8 * (c.loop-k.k + 1) ≡ 8 * c.loop-k.k + 8 = omega arith in
    rw e (told (goal.at.loop-k-preserved c).After-double_word-y ∙ simp (le-ltb _ _ c.if-x-y.false, le-ltb _ _ c.if-y-x.false))

pub returns : goal.returns
returns c =
    let e : 8 * c.loop-k.k ≡ 32 = omega arith in
    sym (c.loop-k.invariant ∙ rw e (cmp_end c.args.a.now c.args.p c.args.b.now c.args.q c.requires.0 c.requires.1))
