-- `exports::block_connected` meets its contract. Assumes nothing.
use mathlib.Core.Path.{◌≡◌, sym, ap, ◌∙◌}
use mathlib.Core.Bool.{true}
use Rattle.kinds.specs.declared.State.{State}
use Rattle.rules.specs.Board.{board_of}
use Rattle.rules.specs.Memory.{lent}
use Rattle.rules.specs.Calls.{block_call}
use Rattle.boundary.specs.Words.{holds_state}
use Rattle.boundary.specs.Calls.{izr_block_connected}
use Rattle.boundary.proofs.Words.{four}
use Rattle.boundary.proofs.Calls.{unfit, fits, tells, put_told}
use Rattle.exports.proofs.block_connected.Goals as goal
use Rattle.exports.proofs.block_connected.Goals.{Else-not-holds_state}

-- past the test the words hold a state
held : (c : Else-not-holds_state) → holds_state c.args.state.now ≡ true
held c = sym c.holds_state.ensures ∙ c.if-not-holds_state.false

pub returns : goal.returns
unfolding izr_block_connected
returns c =
    let same = ap (λ (s : State). block_call (board_of c.args.on) s (lent c.args.confirmed.now c.args.resolved.now c.args.pending.now c.args.recent.now) c.args.ids.now (record { 0 = c.args.height })) c.state_in.ensures in
    fits _ _ _ _ _ (held (goal.at.returns c).Else-not-holds_state) _ (tells c.args.state.now _ _ _ _ (c.block_connected-connected.ensures ∙ same) _ _ c.tell.ensures.number (c.tell.ensures.words_after ∙ put_told _ _ (held (goal.at.returns c).Else-not-holds_state) _ c.state_in.ensures))

pub returns-then-not-holds_state : goal.returns-then-not-holds_state
unfolding izr_block_connected
returns-then-not-holds_state c = unfit _ _ _ _ _ (sym c.holds_state.ensures ∙ c.if-not-holds_state.true)

pub state_in-requires : goal.state_in-requires
unfolding izr_block_connected
state_in-requires c = held (goal.at.state_in-requires c).Else-not-holds_state

pub tell-requires : goal.tell-requires
unfolding izr_block_connected
tell-requires c = four _ (held (goal.at.tell-requires c).Else-not-holds_state)
