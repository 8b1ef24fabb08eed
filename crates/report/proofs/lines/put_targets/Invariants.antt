-- A turn tells one column more.
use Rattle.std.proofs.Common.{◌≡◌}
use Rattle.print.specs.Page.{page_of}
use Rattle.report.specs.Rates.{answered}
use Rattle.report.proofs.Targets.{Left}
use Rattle.report.proofs.lines.put_targets.Given as goal

abbrev pub invariant-loop-c : goal.invariant-loop-c
invariant-loop-c l = record {
  same_buffer : l.out.out.ghost_name ≡ l.initial.out.out.ghost_name;
  left : Left l.width (answered l.state l.confirmed l.resolved l.on) (page_of l.initial.out) l.c (page_of l.out);
}
