-- `entries::tx_left` meets its contract: each of its answers is the definition's, by the laws of `Answered`. Assumes nothing.
use mathlib.Core.Path.{◌≡◌, sym, ◌∙◌}
use mathlib.Core.Bool.{true}
use Rattle.rules.specs.Board.{Board, board_of}
use Rattle.rules.specs.Memory.{sound_pending}
use Rattle.rules.proofs.Boards.{board_lawful}
use Rattle.rules.proofs.Memory.{pending_table}
use Rattle.rules.proofs.Bytes.{are_bytes_lem}
use Rattle.entries.proofs.Answered.{Given, leave_damaged, leave_absent, leave_done}
use borrow.Author.Rules.{rules}
use Rattle.entries.proofs.tx_left.Goals as goal
use Rattle.entries.proofs.tx_left.Goals.{Else-not-judge_pending, Start}

abbrev given : Start → Given
given s = record { state = s.args.state; table = s.args.pending.now; id = s.args.id.now }

abbrev board : Start → Board
board s = board_of s.args.on

-- past the first test the table is sound
sound : (c : Else-not-judge_pending) → sound_pending (board_of c.args.on) c.args.state.pending c.args.pending.now ≡ true
sound c = sym c.judge_pending.ensures ∙ c.if-not-judge_pending.false

pub returns-then-not-judge_pending : goal.returns-then-not-judge_pending
returns-then-not-judge_pending c = leave_damaged (board (goal.at.returns-then-not-judge_pending c).Start) (board_lawful c.args.on) (given (goal.at.returns-then-not-judge_pending c).Start) (sym c.judge_pending.ensures ∙ c.if-not-judge_pending.true)

pub forget-left-requires : goal.forget-left-requires
forget-left-requires c = record { pending_value = pending_table (board (goal.at.forget-left-requires c).Start) (given (goal.at.forget-left-requires c).Start).state.pending (given (goal.at.forget-left-requires c).Start).table (sound (goal.at.forget-left-requires c).Else-not-judge_pending) }

pub returns-then-left-used : goal.returns-then-left-used
returns-then-left-used c =
    leave_absent (board (goal.at.returns-then-left-used c).Start) (board_lawful c.args.on) (given (goal.at.returns-then-left-used c).Start) (sound (goal.at.returns-then-left-used c).Else-not-judge_pending) c.forget-left.result c.forget-left.new.pending c.forget-left.ensures.value c.forget-left.ensures.pending_after
    (are_bytes_lem (given (goal.at.returns-then-left-used c).Start).table (λ i. search rules)) c.if-left-used.true

pub returns : goal.returns
returns c =
    leave_done (board (goal.at.returns c).Start) (board_lawful c.args.on) (given (goal.at.returns c).Start) (sound (goal.at.returns c).Else-not-judge_pending) c.forget-left.result c.forget-left.new.pending c.forget-left.ensures.value c.forget-left.ensures.pending_after
    c.if-left-used.false c.with_pending.result c.with_pending.ensures
