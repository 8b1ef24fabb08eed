-- `scan::sums_pass` meets its contract. Assumes nothing.
use Rattle.rules.specs.Estimate.{passes}
use Rattle.floats.proofs.Bits.{one_is, part_is}
use Rattle.scan.proofs.sums_pass.Goals as goal

pub returns-then-resolved : goal.returns-then-resolved
unfolding passes
returns-then-resolved c = rw (← one_is, ← part_is, c.if-resolved.true)

pub returns-else-resolved : goal.returns-else-resolved
unfolding passes
returns-else-resolved c = rw (← one_is, c.if-resolved.false)
