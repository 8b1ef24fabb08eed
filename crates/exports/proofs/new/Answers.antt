-- `exports::new` meets its contract. Assumes nothing.
use mathlib.Core.Path.{sym, ap, ◌∙◌}
use mathlib.Core.List.{[]}
use Prim.Native.Nat.{ℕ}
use borrow.Author.Tests.{le-leb, lt-leb}
use Rattle.kinds.specs.Answers.{start_refusal, state_or}
use Rattle.kinds.specs.Refusals.{start_refuses}
use Rattle.rules.specs.Estimator.{fresh}
use Rattle.rules.specs.Memory.{state_of}
use Rattle.boundary.specs.Words.{put_if_done}
use Rattle.boundary.specs.Calls.{izr_new}
use Rattle.boundary.proofs.Calls.{unfit, fits, begins, carry_none, put_begun}
use Rattle.exports.proofs.new.Goals as goal

pub returns : goal.returns
unfolding izr_new
returns c =
    let put = c.tell.ensures.words_after ∙ put_begun start_refusal start_refuses (state_of fresh) _ _ ∙ ap (λ (n : ℕ). put_if_done n (state_or (state_of fresh) c.new-started.result) c.args.state.now) (sym c.tell.ensures.number) in
    fits _ _ _ _ _ (le-leb 4 _ c.if-state-lt4.false) _ (begins c.args.state.now _ _ _ _ c.new-started.ensures [] _ _ _ c.tell.ensures.number put (carry_none _))

pub returns-then-state-lt4 : goal.returns-then-state-lt4
unfolding izr_new
returns-then-state-lt4 c = unfit _ _ _ _ _ (lt-leb 4 _ c.if-state-lt4.true)
