-- `judge::tables::judge_pending` meets its contract: the size of a record, as the code has asked for it, is the board's. Assumes nothing.
use mathlib.Core.Path.{◌≡◌, sym, ap₂, ◌∙◌}
use mathlib.Core.Bool.{true, ◌&&◌}
use mathlib.Core.List.{List, map}
use Prim.Native.Nat.{ℕ}
use Rattle.kinds.specs.declared.Horizon.{Horizon}
use Rattle.rules.specs.Lists.{every}
use Rattle.rules.specs.Ids.{rising}
use Rattle.rules.specs.Records.{records, id_of, sound_table}
use Rattle.rules.specs.Memory.{sound_pending, pending_records}
use Rattle.rules.specs.Board.{Pending, board_of, pending_most, pending_of, in_range}
use Rattle.rules.proofs.Boards.{read_is}
use Rattle.judge.proofs.Records.{roomy, table_is, roomy_told}
use Rattle.judge.proofs.tables.judge_pending.Goals as goal
use Rattle.judge.proofs.tables.judge_pending.Goals.{Then-room_and_zeros}

-- the rules' test, over the size that the code has asked for
sound_is : (on : Horizon) (size used : ℕ) (xs : List ℕ) → size ≡ (board_of on).table.size
    → sound_pending (board_of on) used xs ≡ (roomy size pending_most used xs && rising (map id_of (records size used xs))) && every in_range (map pending_of (records size used xs))
unfolding sound_pending pending_records
sound_is on size used xs e =
    ap₂ (λ (f : List ℕ → Pending) (n : ℕ). sound_table n pending_most used xs && every in_range (map f (records n used xs))) (read_is on) (sym e)
    ∙ rw (table_is size pending_most used xs)

first : (t : Then-room_and_zeros) → roomy t.record_size-size.result pending_most t.args.used t.args.table.now ≡ true
first t = sym t.room_and_zeros.ensures ∙ t.if-room_and_zeros.true

pub returns-then-room_and_zeros : goal.returns-then-room_and_zeros
returns-then-room_and_zeros c =
    sym (sound_is c.args.on _ c.args.used c.args.table.now c.record_size-size.ensures.value ∙ rw (first (goal.at.returns-then-room_and_zeros c).Then-room_and_zeros, c.records_sound.ensures))

pub returns-else-room_and_zeros : goal.returns-else-room_and_zeros
returns-else-room_and_zeros c =
    sym (sound_is c.args.on _ c.args.used c.args.table.now c.record_size-size.ensures.value ∙ rw (sym c.room_and_zeros.ensures ∙ c.if-room_and_zeros.false) (sym c.if-room_and_zeros.false))

pub records_sound-requires : goal.records_sound-requires
records_sound-requires c = (c.record_size-size.ensures.lower_bound, roomy_told _ pending_most c.args.used c.args.table.now (first (goal.at.records_sound-requires c).Then-room_and_zeros))
