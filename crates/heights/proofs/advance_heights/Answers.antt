use mathlib.Core.Path.{refl}
use native.Mathlib.Omega.{arith}
use Rattle.rules.specs.Board.{board_of}
use Rattle.rules.proofs.Boards.{board_lawful}
use Rattle.rules.specs.Memory.{Lent, lent}
use Rattle.ready.proofs.Facts.{confirmed_places, resolved_places}
use Rattle.heights.proofs.Skip.{start, ready_still, next, stop, rest}
use Rattle.heights.proofs.advance_heights.Goals as goal
use Rattle.heights.proofs.advance_heights.Goals.{Start}

-- the memory at entry
abbrev given : Start → Lent
given s = lent s.args.confirmed.now s.args.resolved.now s.args.pending.now s.args.recent.now

pub loop-i-init : goal.loop-i-init
loop-i-init c = start (board_of c.args.on) (board_lawful c.args.on) c.args.low.0 c.args.n.0 c.args.state (given (goal.at.loop-i-init c).Start) c.requires.ready

pub advance_height-s-requires : goal.advance_height-s-requires
advance_height-s-requires c =
    ready_still (board_of c.args.on) (board_lawful c.args.on) c.args.low.0 c.args.n.0 c.args.state (given (goal.at.advance_height-s-requires c).Start) c.requires.ready c.loop-i.invariant

pub loop-i-preserved : goal.loop-i-preserved
loop-i-preserved c =
    next (board_of c.args.on) (board_lawful c.args.on) c.args.low.0 c.args.n.0 c.args.state (given (goal.at.loop-i-preserved c).Start) c.requires.ready c.loop-i.invariant (omega arith)
    (record { confirmed = c.advance_height-s.auto.confirmed; resolved = c.advance_height-s.auto.resolved; pending = c.advance_height-s.auto.pending; recent = c.advance_height-s.auto.recent }) c.advance_height-s.ensures

pub returns : goal.returns
returns c =
    stop (board_of c.args.on) (board_lawful c.args.on) c.args.low.0 c.args.n.0 c.args.state (given (goal.at.returns c).Start) c.requires.ready c.loop-i.invariant (omega arith)

pub apply_decay-requires : goal.apply_decay-requires
apply_decay-requires c =
    let k = board_of c.args.on in
    let now_ready = ready_still k (board_lawful c.args.on) c.args.low.0 c.args.n.0 c.args.state (given (goal.at.apply_decay-requires c).Start) c.requires.ready c.loop-i.invariant in record { places_of_counts_in_bounds = (confirmed_places k (board_lawful c.args.on) _ _ now_ready, resolved_places k (board_lawful c.args.on) _ _ now_ready); factor = c.factor_of.ensures.factor }

-- with no record left the heights that are left are one pass
pub returns-then-s-eq0-2 : goal.returns-then-s-eq0-2
returns-then-s-eq0-2 c =
    rest (board_of c.args.on) (board_lawful c.args.on) c.args.low.0 c.args.n.0 c.args.state (given (goal.at.returns-then-s-eq0-2 c).Start) c.requires.ready c.loop-i.invariant (omega arith)
    (omega arith) (omega arith)
    _ _ _ _ refl c.factor_of.ensures.value c.apply_decay.ensures.confirmed_after c.apply_decay.ensures.resolved_after
