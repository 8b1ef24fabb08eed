-- `exports::estimate` meets its contract. Assumes nothing.
use mathlib.Core.Path.{◌≡◌, sym, ap, ◌∙◌}
use mathlib.Core.Bool.{true, ◌&&◌}
use borrow.Author.Tests.{leb-true}
use lib.Dec.{leb}
use lib.ListN.{length}
use Rattle.kinds.specs.declared.State.{State}
use Rattle.rules.specs.Board.{board_of}
use Rattle.rules.specs.Calls.{estimate_call}
use Rattle.rules.proofs.Records.{and_left, and_right}
use Rattle.boundary.specs.Words.{holds_state}
use Rattle.boundary.specs.Calls.{izr_estimate}
use Rattle.boundary.proofs.Calls.{unfit, fits, estimates}
use Rattle.exports.proofs.estimate.Goals as goal
use Rattle.exports.proofs.estimate.Goals.{Else-not-state_and_word}

-- past the test the words hold a state, and there is a word to carry in
fit : (c : Else-not-state_and_word) → (holds_state c.args.state.now && leb 1 (length c.args.carried.now)) ≡ true
fit c = sym c.state_and_word.ensures ∙ c.if-not-state_and_word.false

pub returns : goal.returns
unfolding izr_estimate
returns c =
    let same = ap (λ (s : State). estimate_call (board_of c.args.on) s c.args.confirmed.now c.args.resolved.now (record { 0 = c.args.target })) c.state_in.ensures in
    fits _ _ _ _ _ (fit (goal.at.returns c).Else-not-state_and_word) _ (estimates _ _ _ _ (c.estimate-estimated.ensures ∙ same) _ _ c.tell_estimated.ensures.number c.tell_estimated.ensures.carried_after)

pub returns-then-not-state_and_word : goal.returns-then-not-state_and_word
unfolding izr_estimate
returns-then-not-state_and_word c = unfit _ _ _ _ _ (sym c.state_and_word.ensures ∙ c.if-not-state_and_word.true)

pub state_in-requires : goal.state_in-requires
unfolding izr_estimate
state_in-requires c = and_left _ _ (fit (goal.at.state_in-requires c).Else-not-state_and_word)

pub tell_estimated-requires : goal.tell_estimated-requires
unfolding izr_estimate
tell_estimated-requires c = leb-true 1 _ (and_right (holds_state c.args.state.now) _ (fit (goal.at.tell_estimated-requires c).Else-not-state_and_word))
