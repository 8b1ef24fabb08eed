-- `exports::from_history_bytes` meets its contract. Assumes nothing.
use mathlib.Core.Path.{◌≡◌, sym, ap, ◌∙◌}
use mathlib.Core.Bool.{true, ◌&&◌}
use borrow.Author.Tests.{leb-true}
use lib.Dec.{leb}
use lib.ListN.{length}
use Rattle.kinds.specs.Answers.{read_refusal, state_or}
use Rattle.kinds.specs.Refusals.{read_refuses}
use Rattle.rules.specs.Estimator.{fresh}
use Rattle.rules.specs.Memory.{state_of}
use Rattle.boundary.specs.Words.{put_if_done}
use Prim.Native.Nat.{ℕ}
use Rattle.rules.proofs.Records.{and_left, and_right}
use Rattle.boundary.specs.Calls.{izr_from_history_bytes}
use Rattle.boundary.proofs.Calls.{unfit, fits, begins, put_begun}
use Rattle.exports.proofs.from_history_bytes.Goals as goal
use Rattle.exports.proofs.from_history_bytes.Goals.{Else-not-room_and_word}

-- past the test there is room for a state, and a word to carry in
fit : (c : Else-not-room_and_word) → (leb 4 (length c.args.state.now) && leb 1 (length c.args.carried.now)) ≡ true
fit c = sym c.room_and_word.ensures ∙ c.if-not-room_and_word.false

pub returns : goal.returns
unfolding izr_from_history_bytes
returns c =
    let put = c.tell_reading.ensures.words_after ∙ put_begun read_refusal read_refuses (state_of fresh) _ _ ∙ ap (λ (n : ℕ). put_if_done n (state_or (state_of fresh) c.from_history_bytes-reading.result) c.args.state.now) (sym c.tell_reading.ensures.number) in
    fits _ _ _ _ _ (fit (goal.at.returns c).Else-not-room_and_word) _ (begins c.args.state.now _ _ _ _ c.from_history_bytes-reading.ensures c.args.carried.now _ _ _ c.tell_reading.ensures.number put c.tell_reading.ensures.carried_after)

pub returns-then-not-room_and_word : goal.returns-then-not-room_and_word
unfolding izr_from_history_bytes
returns-then-not-room_and_word c = unfit _ _ _ _ _ (sym c.room_and_word.ensures ∙ c.if-not-room_and_word.true)

pub tell_reading-requires : goal.tell_reading-requires
unfolding izr_from_history_bytes
tell_reading-requires c = (leb-true 4 _ (and_left _ _ (fit (goal.at.tell_reading-requires c).Else-not-room_and_word)), leb-true 1 _ (and_right (leb 4 (length c.args.state.now)) _ (fit (goal.at.tell_reading-requires c).Else-not-room_and_word)))
