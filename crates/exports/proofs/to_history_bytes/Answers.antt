-- `exports::to_history_bytes` meets its contract. Assumes nothing.
use mathlib.Core.Path.{◌≡◌, sym, ap, ◌∙◌}
use mathlib.Core.Bool.{true, ◌&&◌}
use borrow.Author.Tests.{leb-true}
use lib.Dec.{leb}
use lib.ListN.{length}
use Rattle.kinds.specs.declared.State.{State}
use Rattle.rules.specs.Board.{board_of}
use Rattle.rules.specs.Memory.{lent}
use Rattle.rules.proofs.Records.{and_left, and_right}
use Rattle.format.specs.File.{version_of}
use Rattle.format.specs.Calls.{write_call}
use Rattle.boundary.specs.Words.{holds_state}
use Rattle.boundary.specs.Calls.{izr_to_history_bytes}
use Rattle.boundary.proofs.Calls.{unfit, fits, writes}
use Rattle.exports.proofs.to_history_bytes.Goals as goal
use Rattle.exports.proofs.to_history_bytes.Goals.{Else-not-state_and_word}

-- past the test the words hold a state, and there is a word to carry in
fit : (c : Else-not-state_and_word) → (holds_state c.args.state.now && leb 1 (length c.args.carried.now)) ≡ true
fit c = sym c.state_and_word.ensures ∙ c.if-not-state_and_word.false

pub returns : goal.returns
unfolding izr_to_history_bytes
returns c =
    let l = lent c.args.confirmed.now c.args.resolved.now c.args.pending.now c.args.recent.now in
    let same = ap (λ (s : State). write_call (version_of c.args.on) (board_of c.args.on) s l c.args.out.now) c.state_in.ensures in
    fits _ _ _ _ _ (fit (goal.at.returns c).Else-not-state_and_word) _ (writes _ _ _ _ _ _ _ (c.to_history_bytes-written.ensures ∙ same) _ _ c.tell_written.ensures.number c.tell_written.ensures.carried_after)

pub returns-then-not-state_and_word : goal.returns-then-not-state_and_word
unfolding izr_to_history_bytes
returns-then-not-state_and_word c = unfit _ _ _ _ _ (sym c.state_and_word.ensures ∙ c.if-not-state_and_word.true)

pub state_in-requires : goal.state_in-requires
unfolding izr_to_history_bytes
state_in-requires c = and_left _ _ (fit (goal.at.state_in-requires c).Else-not-state_and_word)

pub tell_written-requires : goal.tell_written-requires
unfolding izr_to_history_bytes
tell_written-requires c = leb-true 1 _ (and_right (holds_state c.args.state.now) _ (fit (goal.at.tell_written-requires c).Else-not-state_and_word))
