-- `exports::tx_left` meets its contract. Assumes nothing.
use mathlib.Core.Path.{◌≡◌, sym, ap₂, ◌∙◌}
use mathlib.Core.Bool.{true, ◌&&◌}
use mathlib.Core.List.{List}
use Prim.Native.Nat.{ℕ}
use borrow.Author.Tests.{eqb-true}
use lib.Dec.{eqb}
use lib.ListN.{length}
use Rattle.kinds.specs.declared.State.{State}
use Rattle.rules.specs.Board.{board_of}
use Rattle.rules.specs.Calls.{leave_call}
use Rattle.rules.proofs.Records.{and_left, and_right}
use Rattle.boundary.specs.Words.{holds_state}
use Rattle.boundary.specs.Calls.{izr_tx_left}
use Rattle.boundary.proofs.Words.{four}
use Rattle.boundary.proofs.Calls.{unfit, fits, tells, put_told}
use Rattle.exports.proofs.tx_left.Goals as goal
use Rattle.exports.proofs.tx_left.Goals.{Else-not-state_and_id}

-- past the test the words hold a state, and the id is 32 bytes
fit : (c : Else-not-state_and_id) → (holds_state c.args.state.now && eqb (length c.args.id.now) 32) ≡ true
fit c = sym c.state_and_id.ensures ∙ c.if-not-state_and_id.false

pub returns : goal.returns
unfolding izr_tx_left
returns c =
    let same = ap₂ (λ (s : State) (i : List ℕ). leave_call (board_of c.args.on) s c.args.pending.now i) c.state_in.ensures c.id_in-given.ensures in
    fits _ _ _ _ _ (fit (goal.at.returns c).Else-not-state_and_id) _ (tells c.args.state.now _ _ _ _ (c.tx_left-left.ensures ∙ same) _ _ c.tell.ensures.number (c.tell.ensures.words_after ∙ put_told _ _ (and_left _ _ (fit (goal.at.returns c).Else-not-state_and_id)) _ c.state_in.ensures))

pub returns-then-not-state_and_id : goal.returns-then-not-state_and_id
unfolding izr_tx_left
returns-then-not-state_and_id c = unfit _ _ _ _ _ (sym c.state_and_id.ensures ∙ c.if-not-state_and_id.true)

pub id_in-given-requires : goal.id_in-given-requires
unfolding izr_tx_left
id_in-given-requires c = eqb-true _ 32 (and_right (holds_state c.args.state.now) _ (fit (goal.at.id_in-given-requires c).Else-not-state_and_id))

pub state_in-requires : goal.state_in-requires
unfolding izr_tx_left
state_in-requires c = and_left _ _ (fit (goal.at.state_in-requires c).Else-not-state_and_id)

pub tell-requires : goal.tell-requires
unfolding izr_tx_left
tell-requires c = four _ (and_left _ _ (fit (goal.at.tell-requires c).Else-not-state_and_id))
