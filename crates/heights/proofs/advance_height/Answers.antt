-- `heights::advance_height` meets its contract: the three calls leave what the law `advanced` asks for. Assumes nothing.
use native.Mathlib.Omega.{arith}
use Rattle.rules.specs.Memory.{Lent, lent}
use Rattle.rules.specs.Board.{board_of}
use Rattle.rules.proofs.Boards.{board_lawful}
use Rattle.table.proofs.Edited.{are_bytes_lem}
use Rattle.ready.proofs.Facts.{confirmed_places, resolved_places}
use Rattle.heights.proofs.Advance.{pending_room, recent_room, pending_well, advanced}
use Rattle.heights.proofs.advance_height.Goals as goal
use Rattle.heights.proofs.advance_height.Goals.{Start}

-- the memory at entry
abbrev given : Start → Lent
given s = lent s.args.confirmed.now s.args.resolved.now s.args.pending.now s.args.recent.now

pub expire_pending-waiting-requires : goal.expire_pending-waiting-requires
expire_pending-waiting-requires c =
    let k = board_of c.args.on in record { places_of_counts_in_bounds = (resolved_places k (board_lawful c.args.on) c.args.state (given (goal.at.expire_pending-waiting-requires c).Start) c.requires, pending_room c.args.on c.args.state (given (goal.at.expire_pending-waiting-requires c).Start) c.requires); all = pending_well c.args.on c.args.state (given (goal.at.expire_pending-waiting-requires c).Start) c.requires }

pub apply_decay-requires : goal.apply_decay-requires
apply_decay-requires c =
    let k = board_of c.args.on in
    let n = resolved_places k (board_lawful c.args.on) c.args.state (given (goal.at.apply_decay-requires c).Start) c.requires in record { places_of_counts_in_bounds = (confirmed_places k (board_lawful c.args.on) c.args.state (given (goal.at.apply_decay-requires c).Start) c.requires, omega (arith, c.expire_pending-waiting.auto.resolved)); factor = c.factor_of.ensures.factor }

pub prune_confirmed-young-requires : goal.prune_confirmed-young-requires
prune_confirmed-young-requires c =
    recent_room c.args.on c.args.state (given (goal.at.prune_confirmed-young-requires c).Start) c.requires

pub returns : goal.returns
returns c =
    advanced c.args.on c.args.state (given (goal.at.returns c).Start) c.requires c.args.h _ c.expire_pending-waiting.result c.prune_confirmed-young.result c.apply_decay.new.confirmed c.expire_pending-waiting.new.resolved c.apply_decay.new.resolved c.expire_pending-waiting.new.pending c.prune_confirmed-young.new.table
    c.factor_of.ensures.value (are_bytes_lem c.expire_pending-waiting.new.pending (λ i. (c.type_inv.pending i).fits)) (are_bytes_lem c.prune_confirmed-young.new.table (λ i. (c.type_inv.recent i).fits))
    c.expire_pending-waiting.ensures.resolved_after c.expire_pending-waiting.ensures.value c.expire_pending-waiting.ensures.pending_after c.apply_decay.ensures.confirmed_after c.apply_decay.ensures.resolved_after c.prune_confirmed-young.ensures.value c.prune_confirmed-young.ensures.table_after
