-- Three parts, one after the other.
use Rattle.print.proofs.Pieces.{both}
use Rattle.report.proofs.lines.put_accepted.Goals as goal

pub returns-clause-written : goal.returns-clause-written
returns-clause-written c = both _ _ _ c.put_premise.ensures.written (both _ _ _ c.put_state.ensures.written c.put_targets.ensures.written)
