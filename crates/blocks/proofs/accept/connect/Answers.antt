-- `blocks::accept::connect` meets its contract: memory is ready for each step, and the steps are the definition's, by the laws of `Connecting`.
-- Assumes nothing.
use mathlib.Core.Path.{sym, ◌∙◌}
use native.Mathlib.Omega.{arith}
use Rattle.rules.specs.Board.{Board, board_of}
use Rattle.rules.proofs.Boards.{board_lawful}
use Rattle.rules.specs.Memory.{Lent, lent}
use Rattle.blocks.proofs.Connecting.{Sure, ready_to_list, room_to_list, ready_to_finish, block_advanced, block_repeated}
use Rattle.blocks.proofs.accept.connect.Goals as goal
use Rattle.blocks.proofs.accept.connect.Goals.{After-confirm_all-listed, After-skip_heights-skipped, Start}

abbrev board : Start → Board
board s = board_of s.args.on

abbrev given : (s : Start) → Sure (board s)
given s =
    record {
      state = s.args.state;
      lent = lent s.args.confirmed.now s.args.resolved.now s.args.pending.now s.args.recent.now;
      ready = s.requires.ready;
      ids = s.args.ids.now;
      height = s.args.height.0;
      small = omega (arith, s.well_formed);
      room = s.requires.recent_bound;
    }

abbrev skipped : After-skip_heights-skipped → Lent
skipped c = lent c.skip_heights-skipped.new.confirmed c.skip_heights-skipped.new.resolved c.skip_heights-skipped.new.pending c.skip_heights-skipped.new.recent

abbrev listed : After-confirm_all-listed → Lent
listed c = lent c.confirm_all-listed.new.confirmed c.confirm_all-listed.new.resolved c.confirm_all-listed.new.pending c.confirm_all-listed.new.recent

pub confirm_all-listed-requires : goal.confirm_all-listed-requires
confirm_all-listed-requires c = record { ready = ready_to_list (board (goal.at.confirm_all-listed-requires c).Start) (board_lawful c.args.on) (given (goal.at.confirm_all-listed-requires c).Start) c.skip_heights-skipped.result (skipped (goal.at.confirm_all-listed-requires c).After-skip_heights-skipped) c.skip_heights-skipped.ensures; recent_len_bound = room_to_list (board (goal.at.confirm_all-listed-requires c).Start) (board_lawful c.args.on) (given (goal.at.confirm_all-listed-requires c).Start) c.skip_heights-skipped.result (skipped (goal.at.confirm_all-listed-requires c).After-skip_heights-skipped) c.skip_heights-skipped.ensures }

pub advance_height-requires : goal.advance_height-requires
advance_height-requires c =
    ready_to_finish (board (goal.at.advance_height-requires c).Start) (board_lawful c.args.on) (given (goal.at.advance_height-requires c).Start) c.skip_heights-skipped.result (skipped (goal.at.advance_height-requires c).After-skip_heights-skipped) c.skip_heights-skipped.ensures
    c.confirm_all-listed.result (listed (goal.at.advance_height-requires c).After-confirm_all-listed) c.confirm_all-listed.ensures

pub shape_of-confirmed-then-advances : goal.shape_of-confirmed-then-advances
shape_of-confirmed-then-advances c =
    c.advance_height.auto.confirmed ∙ c.confirm_all-listed.auto.confirmed ∙ c.skip_heights-skipped.auto.confirmed

pub shape_of-resolved-then-advances : goal.shape_of-resolved-then-advances
shape_of-resolved-then-advances c =
    c.advance_height.auto.resolved ∙ c.confirm_all-listed.auto.resolved ∙ c.skip_heights-skipped.auto.resolved

pub shape_of-pending-then-advances : goal.shape_of-pending-then-advances
shape_of-pending-then-advances c =
    c.advance_height.auto.pending ∙ c.confirm_all-listed.auto.pending ∙ c.skip_heights-skipped.auto.pending

pub returns-then-advances : goal.returns-then-advances
returns-then-advances c =
    block_advanced (board (goal.at.returns-then-advances c).Start) (board_lawful c.args.on) (given (goal.at.returns-then-advances c).Start) c.skip_heights-skipped.result (skipped (goal.at.returns-then-advances c).After-skip_heights-skipped) c.skip_heights-skipped.ensures
    c.confirm_all-listed.result (listed (goal.at.returns-then-advances c).After-confirm_all-listed) c.confirm_all-listed.ensures (sym c.advances.ensures ∙ c.if-advances.true) c.advance_height.result _ c.advance_height.ensures

pub returns : goal.returns
returns c =
    block_repeated (board (goal.at.returns c).Start) (board_lawful c.args.on) (given (goal.at.returns c).Start) c.skip_heights-skipped.result (skipped (goal.at.returns c).After-skip_heights-skipped) c.skip_heights-skipped.ensures
    c.confirm_all-listed.result (listed (goal.at.returns c).After-confirm_all-listed) c.confirm_all-listed.ensures (sym c.advances.ensures ∙ c.if-advances.false)
