use mathlib.Core.Path.{refl}
use Prim.Native.Nat.{◌<◌}
use native.Mathlib.Omega.{arith}
use lib.ListN.{length}
use Rattle.rules.specs.Board.{board_of}
use Rattle.rules.specs.Memory.{lent}
use Rattle.rules.proofs.Boards.{board_lawful}
use Rattle.settles.proofs.Passing.{passed_none, passed_all, in_ms, settle_asks, passed_skip, passed_take}
use Rattle.settles.proofs.settle_all.Goals as goal
use Rattle.settles.proofs.settle_all.Goals.{In-loop-i, then-marks-i-eq1, else-marks-i-eq1}

mark_there : (t : In-loop-i) → t.loop-i.i < length t.loop-i.marks
mark_there t =
    in_ms (board_of t.args.on) (board_lawful t.args.on) t.args.h.0 (omega (arith, t.well_formed)) t.args.state _ _ t.requires.ready t.requires.pending_in_bounds t.loop-i.i _ _ t.loop-i.invariant (omega arith)

pub loop-i-init : goal.loop-i-init
loop-i-init c =
    passed_none (board_of c.args.on) (board_lawful c.args.on) c.args.h.0 (omega (arith, c.well_formed)) c.args.state _ _ c.requires.ready c.requires.pending_in_bounds

pub settle-requires : goal.settle-requires
settle-requires c = let both = settle_asks (board_of c.args.on) (board_lawful c.args.on) c.args.h.0 (omega (arith, c.well_formed)) c.args.state _ _ c.requires.ready c.requires.pending_in_bounds c.loop-i.i _ _ c.loop-i.invariant (omega arith) in record { i_lt_used = both.0; i_bound = both.1.0; recent_value = both.1.1 }

pub loop-i-preserved : goal.loop-i-preserved
loop-i-preserved c =
    elim c.if-marks-i-eq1.branch [
      | then-marks-i-eq1 w ↦
          rw (w.confirmed-is, w.resolved-is, w.recent-is, w.marks-is)
          (passed_take (board_of c.args.on) (board_lawful c.args.on) c.args.h.0 (omega (arith, c.well_formed)) c.args.state _ _ c.requires.ready c.requires.pending_in_bounds c.loop-i.i _ _ c.loop-i.invariant (omega arith)
          w.if-marks-i-eq1.true (lent _ _ _ _) _ w.settle.ensures
          (record { confirmed = w.settle.auto.confirmed; resolved = w.settle.auto.resolved; pending = refl; recent = w.settle.auto.recent }))
      | else-marks-i-eq1 w ↦
          rw (w.confirmed-is, w.resolved-is, w.recent-is, w.marks-is)
          (passed_skip (board_of c.args.on) (board_lawful c.args.on) c.args.h.0 (omega (arith, c.well_formed)) c.args.state _ _ c.requires.ready c.requires.pending_in_bounds c.loop-i.i _ _ c.loop-i.invariant (omega arith) w.if-marks-i-eq1.false)
    ]

pub returns : goal.returns
returns c =
    passed_all (board_of c.args.on) (board_lawful c.args.on) c.args.h.0 (omega (arith, c.well_formed)) c.args.state _ _ c.requires.ready c.requires.pending_in_bounds c.loop-i.i _ _ c.loop-i.invariant (omega (arith, c.loop-i.invariant.within))
