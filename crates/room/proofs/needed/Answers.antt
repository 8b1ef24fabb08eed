-- `room::needed` meets its contract. Assumes nothing.
use mathlib.Core.Path.{◌≡◌}
use Prim.Native.Nat.{◌+◌}
use native.Mathlib.Omega.{arith}
use Rattle.rules.specs.Board.{board_of}
use Rattle.rules.specs.Memory.{pending_records, confirmed_records}
use Rattle.rules.specs.Calls.{ids_of}
use Rattle.rules.proofs.Boards.{board_lawful}
use Rattle.table.proofs.Sound.{sound_told, sound_room}
use Rattle.batch.specs.Needed.{needed}
use Rattle.marks.proofs.Marking.{marks_enough, markable}
use Rattle.room.proofs.Judging.{all_needed, within_used}
use Rattle.room.proofs.needed.Goals as goal
use Rattle.room.proofs.needed.Goals.{After-count_new}

counted : (c : After-count_new) → c.count_staying-old.result + c.count_new.result
    ≡ needed (board_of c.args.on) (ids_of c.args.ids.now) c.args.height.0 c.args.state.last (pending_records (board_of c.args.on) c.args.state.pending c.args.pending.now) (confirmed_records c.args.state.recent c.args.recent.now)
counted c =
    all_needed (board_of c.args.on) (board_lawful c.args.on) (ids_of c.args.ids.now) c.args.height.0 c.args.state.last c.args.state.pending c.args.pending.now _ _ _ _ _ _ _ _
    c.last_skipped-skipped.ensures c.record_size-size.ensures.value c.least_height.ensures c.mark_listed.ensures c.count_staying-old.ensures c.count_new.ensures

pub mark_listed-requires : goal.mark_listed-requires
mark_listed-requires c = let both = markable _ _ c.args.state.pending _ _ c.record_size-size.ensures.value c.record_size-size.ensures.lower_bound c.requires.pending_value c.no_marks-marks.ensures in record { le_size = both.0; table_value = both.1.0; used_in_bounds = both.1.1 }

pub count_staying-old-requires : goal.count_staying-old-requires
count_staying-old-requires c = sound_room _ _ _ _ (sound_told _ _ _ _ c.requires.recent_value)

pub count_new-requires : goal.count_new-requires
count_new-requires c = record { pending_value = c.requires.pending_value; recent_value = c.requires.recent_value; used_in_bounds = omega (arith, c.mark_listed.auto.marks, marks_enough _ c.args.state.pending c.args.pending.now _ c.requires.pending_value c.no_marks-marks.ensures) }

pub overflow_add-result : goal.overflow_add-result
overflow_add-result c =
    omega (arith, counted (goal.at.overflow_add-result c).After-count_new, within_used (board_of c.args.on) (ids_of c.args.ids.now) c.args.height.0 c.args.state.last c.args.state.pending c.args.state.recent c.args.pending.now c.args.recent.now, (sound_told _ _ _ _ c.requires.pending_value).fit, (sound_told _ _ _ _ c.requires.recent_value).fit)

pub returns : goal.returns
returns c = counted (goal.at.returns c).After-count_new
