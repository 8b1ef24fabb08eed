-- `room::count::adds_one` meets its contract. Assumes nothing.
use mathlib.Core.Path.{◌≡◌, sym, ◌∙◌}
use mathlib.Core.Bool.{true}
use mathlib.Core.List.{[]}
use Prim.Native.Nat.{◌+◌, ◌*◌, ◌≤◌}
use native.Mathlib.Omega.{arith}
use lib.ListN.{length, get_or}
use Rattle.rules.specs.Records.{records}
use Rattle.rules.specs.Board.{board_of}
use Rattle.rules.specs.Memory.{confirmed_records}
use Rattle.rules.proofs.Boards.{board_lawful}
use Rattle.table.proofs.Sound.{sound_told, sound_room}
use Rattle.room.specs.Room.{lasts_through}
use Rattle.by_id.proofs.ById.{id_within, lent_id}
use Rattle.room.proofs.Adding.{expired, lasting}
use Rattle.room.proofs.count.adds_one.Goals as goal
use Rattle.room.proofs.count.adds_one.Goals.{After-record_size}

within : (n : After-record_size) → n.args.i * n.record_size.result + 32 ≤ length n.args.pending.now
within n =
    id_within _ _ _ n.args.used n.args.i _ n.record_size.ensures.value (omega (arith, n.record_size.ensures.lower_bound)) n.requires.i_lt_used.0 n.requires.i_lt_used.1

still_lasts : (n : After-record_size) → true ≡ lasts_through (board_of n.args.on) n.args.skipped ((board_of n.args.on).table.read (get_or (records (board_of n.args.on).table.size n.args.used n.args.pending.now) n.args.i []))
still_lasts n = sym (n.if-not-lasts.false) ∙ n.lasts.ensures

pub lasts-requires : goal.lasts-requires
lasts-requires c = (c.requires.i_lt_used.0, sound_room _ _ _ _ (sound_told _ _ _ _ c.requires.i_lt_used.1))

pub returns-then-not-lasts : goal.returns-then-not-lasts
returns-then-not-lasts c = expired _ _ _ _ _ c.if-mark-ne1.false (sym (c.if-not-lasts.true) ∙ c.lasts.ensures)

pub returns : goal.returns
returns c =
    lasting (board_of c.args.on) c.args.skipped (confirmed_records c.args.kept c.args.recent.now) ((board_of c.args.on).table.read (get_or (records (board_of c.args.on).table.size c.args.used c.args.pending.now) c.args.i [])) c.args.mark c.if-mark-ne1.false (still_lasts (goal.at.returns c).After-record_size) _ _ _
    c.least_height.ensures
    (c.id_at.ensures ∙ lent_id (board_of c.args.on) (board_lawful c.args.on) _ c.args.used c.args.i c.args.pending.now c.record_size.ensures.value (omega (arith, c.record_size.ensures.lower_bound)) c.requires.i_lt_used.0)
    c.held_above.ensures

pub overflow_mul-at : goal.overflow_mul-at
overflow_mul-at c = omega (arith, within (goal.at.overflow_mul-at c).After-record_size)

pub id_at-requires : goal.id_at-requires
id_at-requires c = omega (arith, within (goal.at.id_at-requires c).After-record_size)
