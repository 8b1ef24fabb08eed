-- `blocks::block_connected` meets its contract: a block that is judged Done is accepted, and any other refused, by the laws of `Judged`.
-- Assumes nothing.
use mathlib.Core.Path.{◌≡◌, sym, ap, ◌∙◌}
use Rattle.std.specs.Prelude.{Result, Err}
use Rattle.kinds.specs.declared.State.{State}
use Rattle.kinds.specs.declared.refusals.BlockError.{BlockError}
use Rattle.kinds.specs.Answers.{done, answer_of, block_refusal}
use borrow.Author.Rules.{rules}
use Rattle.rules.specs.Board.{Board, board_of}
use Rattle.rules.proofs.Boards.{board_lawful}
use Rattle.rules.specs.Memory.{Lent, lent}
use Rattle.ready.proofs.Ready.{ready_sound}
use Rattle.rules.proofs.Bytes.{are_bytes_lem}
use Rattle.verdict.proofs.Judging.{Block, says}
use Rattle.blocks.proofs.Judged.{block_as_given, block_sound, block_room, block_accepted}
use Rattle.blocks.proofs.block_connected.Goals as goal
use Rattle.blocks.proofs.block_connected.Goals.{After-connect, In_ok-judge_block, Start}

abbrev given : Start → Block
given s =
    record { state = s.args.state; lent = lent s.args.confirmed.now s.args.resolved.now s.args.pending.now s.args.recent.now; ids = s.args.ids.now; height = s.args.height }

abbrev board : Start → Board
board s = board_of s.args.on

-- the block is judged Done
is_done : (c : In_ok-judge_block) → done ≡ (says (board (goal.at.In_ok-judge_block c).Start) (given (goal.at.In_ok-judge_block c).Start)).answer
is_done c = ap (answer_of block_refusal) (sym c.in_ok-judge_block.was) ∙ c.judge_block.ensures

-- and what it leaves
abbrev left : After-connect → Lent
left c = lent c.connect.new.confirmed c.connect.new.resolved c.connect.new.pending c.connect.new.recent

pub returns-in_err-judge_block : goal.returns-in_err-judge_block
returns-in_err-judge_block c =
    let same : ◌≡◌ {A = Result State BlockError} c.from_residual.result (Err c.in_err-judge_block.field-0.0) = search rules in
    rw same (block_as_given (board (goal.at.returns-in_err-judge_block c).Start) (given (goal.at.returns-in_err-judge_block c).Start) c.in_err-judge_block.field-0.0 c.in_err-judge_block.ensures)

pub connect-requires : goal.connect-requires
connect-requires c = record {
  ready = ready_sound (board (goal.at.connect-requires c).Start) (board_lawful c.args.on) c.args.state (given (goal.at.connect-requires c).Start).lent (block_sound (board (goal.at.connect-requires c).Start) (given (goal.at.connect-requires c).Start) (is_done (goal.at.connect-requires c).In_ok-judge_block))
      (are_bytes_lem c.args.pending.now (λ i. search rules)) (are_bytes_lem c.args.recent.now (λ i. search rules));
  recent_bound = block_room (board (goal.at.connect-requires c).Start) (given (goal.at.connect-requires c).Start) (is_done (goal.at.connect-requires c).In_ok-judge_block);
}

pub returns : goal.returns
returns c =
    c.connect.ensures
    ∙ sym (block_accepted (board (goal.at.returns c).Start) (given (goal.at.returns c).Start) (is_done (goal.at.returns c).In_ok-judge_block))
