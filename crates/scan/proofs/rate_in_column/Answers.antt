-- `scan::rate_in_column` meets its contract. Assumes nothing.
use mathlib.Core.Path.{sym, ap, ◌∙◌}
use native.Mathlib.Omega.{arith}
use Rattle.std.specs.Prelude.{Some, option_map}
use Rattle.rules.specs.Ladder.{ladder}
use Rattle.std.proofs.Common.{rules}
use Rattle.scan.proofs.Scanning.{shown_none, shown_turn, last_rate}
use Rattle.scan.proofs.rate_in_column.Goals as goal

pub loop-b-init : goal.loop-b-init
loop-b-init c = record { sums = shown_none c.args.c c.args.confirmed.now c.args.resolved.now; best = search rules }

pub loop-b-preserved : goal.loop-b-preserved
loop-b-preserved c = record {
  sums =
      shown_turn c.args.c c.args.confirmed.now c.args.resolved.now c.loop-b.b c.loop-b.s _ (omega arith) (omega arith) (omega arith) (omega arith) (omega arith) (omega arith)
      c.loop-b.invariant.sums c.add_bucket-s.ensures.sums;
  best = c.add_bucket-s.ensures.best;
}

pub returns-in_err-best : goal.returns-in_err-best
returns-in_err-best c =
    rw c.from_residual.ensures
    (ap (option_map ladder) (sym c.in_err-best.was) ∙ last_rate _ _ _ c.loop-b.b (omega arith) c.loop-b.s c.loop-b.invariant.sums)

pub returns : goal.returns
returns c =
    ap Some c.rate_at.ensures ∙ ap (option_map ladder) (sym c.in_ok-best.was) ∙ last_rate _ _ _ c.loop-b.b (omega arith) c.loop-b.s c.loop-b.invariant.sums
