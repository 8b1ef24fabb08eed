-- A line of four pieces.
use Rattle.std.proofs.Common.{ap}
use Rattle.kinds.specs.Answers.{Answer}
use Rattle.report.specs.Rates.{carried_rate, answered}
use Rattle.report.proofs.Targets.{one_line}
use Rattle.report.proofs.lines.put_target.Goals as goal

pub returns-clause-written : goal.returns-clause-written
unfolding answered
returns-clause-written c =
    let a = c.args in
    one_line (answered a.state a.confirmed.now a.resolved.now a.on) a.t _ _ c.put_decimal.ensures.written c.put_byte.ensures.written c.put_rate.ensures.written c.put_byte-2.ensures.written
    (ap (λ (x : Answer). carried_rate x.carries) c.estimate-e.ensures)
