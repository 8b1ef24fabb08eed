-- `expiry::keep::keep_passing` meets its contract. Assumes nothing.
use Rattle.expiry.specs.Fields.{passing}
use Rattle.table.proofs.Runs.{Running}
use Rattle.expiry.proofs.keep.keep_passing.Given as goal

abbrev pub invariant-loop-i : goal.invariant-loop-i
invariant-loop-i g l = Running (passing l.off g.passes) l.size l.used l.initial.table l.k l.from l.i l.table
