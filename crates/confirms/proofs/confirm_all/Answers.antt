-- `confirms::confirm_all` meets its contract. Assumes nothing.
use mathlib.Core.Path.{◌≡◌}
use mathlib.Core.Bool.{true}
use Prim.Native.Nat.{◌≤◌}
use native.Mathlib.Omega.{arith}
use lib.ListN.{length}
use Rattle.rules.specs.Board.{board_of, pending_most}
use Rattle.rules.specs.Records.{sound_table}
use Rattle.rules.specs.Calls.{ids_of}
use Rattle.rules.proofs.Boards.{board_lawful}
use Rattle.by_id.proofs.ById.{within_bytes}
use Rattle.ready.proofs.Facts.{pending_sound}
use Rattle.marks.proofs.Marking.{marks_enough, markable}
use Rattle.confirms.proofs.Together.{places_for_all, merge_asks, phases_are}
use Rattle.confirms.proofs.confirm_all.Goals as goal
use Rattle.confirms.proofs.confirm_all.Goals.{After-mark_listed, After-settle_all, Start}

sound : (s : Start) → sound_table (board_of s.args.on).table.size pending_most s.args.state.pending s.args.pending.now ≡ true
sound s = pending_sound (board_of s.args.on) (board_lawful s.args.on) _ _ s.requires.ready

marks_there : (c : After-mark_listed) → c.args.state.pending ≤ length c.mark_listed.new.marks
marks_there c =
    omega (arith, c.mark_listed.auto.marks, marks_enough _ c.args.state.pending c.args.pending.now _ (sound (goal.at.After-mark_listed c).Start) c.no_marks-marks.ensures)

still_there : (c : After-settle_all) → c.args.state.pending ≤ length c.settle_all.new.marks
still_there c = omega (arith, c.settle_all.auto.marks, marks_there (goal.at.After-settle_all c).After-mark_listed)

-- ---- the marks
pub mark_listed-requires : goal.mark_listed-requires
mark_listed-requires c = let both = markable _ _ c.args.state.pending _ _ c.record_size-size.ensures.value c.record_size-size.ensures.lower_bound (sound (goal.at.mark_listed-requires c).Start) c.no_marks-marks.ensures in record { le_size = both.0; table_value = both.1.0; used_in_bounds = both.1.1 }

pub settle_all-requires : goal.settle_all-requires
settle_all-requires c = record { ready = c.requires.ready; pending_in_bounds = marks_there (goal.at.settle_all-requires c).After-mark_listed }

-- ---- the tables
pub merge-requires : goal.merge-requires
merge-requires c =
    merge_asks (board_of c.args.on) (board_lawful c.args.on) c.args.h.0 (omega (arith, c.well_formed)) _ _ c.requires.ready (ids_of c.args.ids.now) _ c.record_size-size.ensures.value _ _ c.mark_listed.ensures _ _ c.settle_all.ensures
    _ (still_there (goal.at.merge-requires c).After-settle_all) c.count_new-fresh.ensures c.requires.recent_len_bound (omega (arith, c.record_size-size.ensures.lower_bound)) c.settle_all.auto.recent

pub drop_marked-left-requires : goal.drop_marked-left-requires
drop_marked-left-requires c =
    (omega (arith, c.record_size-size.ensures.lower_bound), (within_bytes _ _ pending_most c.args.state.pending _ c.record_size-size.ensures.value (sound (goal.at.drop_marked-left-requires c).Start), still_there (goal.at.drop_marked-left-requires c).After-settle_all))

pub overflow_add-result : goal.overflow_add-result
overflow_add-result c =
    let p = places_for_all (board_of c.args.on) (board_lawful c.args.on) c.args.h.0 (omega (arith, c.well_formed)) _ _ c.requires.ready (ids_of c.args.ids.now) _ c.record_size-size.ensures.value _ _ c.mark_listed.ensures _ _ c.settle_all.ensures
    _ (still_there (goal.at.overflow_add-result c).After-settle_all) c.count_new-fresh.ensures c.requires.recent_len_bound in
    omega (arith, p)

pub returns : goal.returns
returns c =
    phases_are (board_of c.args.on) (board_lawful c.args.on) c.args.h.0 (omega (arith, c.well_formed)) _ _ c.requires.ready (ids_of c.args.ids.now) _ c.record_size-size.ensures.value _ _ c.mark_listed.ensures _ _ c.settle_all.ensures
    _ (still_there (goal.at.returns c).After-settle_all) c.count_new-fresh.ensures c.requires.recent_len_bound _ _ _ c.merge.ensures c.drop_marked-left.ensures.value c.drop_marked-left.ensures.table_after

pub count_new-fresh-requires : goal.count_new-fresh-requires
count_new-fresh-requires c = still_there (goal.at.count_new-fresh-requires c).After-settle_all
