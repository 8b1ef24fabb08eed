-- A turn tells one column more.
use Rattle.std.proofs.Common.{ℕ, ◌∙◌, ap, arith}
use Rattle.print.specs.Page.{page_of, writes}
use Rattle.report.specs.Shown.{target_lines}
use Rattle.report.specs.Rates.{answered}
use Rattle.report.proofs.Targets.{next, stop}
use Rattle.report.proofs.lines.put_targets.Goals as goal

pub loop-c-preserved : goal.loop-c-preserved
loop-c-preserved c = record {
  same_buffer = c.put_target.ensures.same_buffer ∙ c.loop-c.invariant.same_buffer;
  left = next _ _ c.loop-c.c c.loop-c.invariant.left (omega arith) c.put_target.ensures.written;
}

pub returns-clause-written : goal.returns-clause-written
returns-clause-written c =
    let a = c.args in
    stop _ _ c.loop-c.c c.loop-c.invariant.left (omega arith)
    ∙ ap (λ (n : ℕ). writes (target_lines n (answered a.state a.confirmed.now a.resolved.now a.on) 1 25) (page_of a.out.now)) c.width_of-width.ensures.result_value
