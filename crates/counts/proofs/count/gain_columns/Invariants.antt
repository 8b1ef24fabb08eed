-- The columns above `t` are left to count.
use mathlib.Core.Path.{◌≡◌}
use Rattle.rules.specs.Counts.{gain}
use Rattle.counts.proofs.Gain.{between}
use Rattle.counts.proofs.count.gain_columns.Given as goal

abbrev pub invariant-loop-t : goal.invariant-loop-t
invariant-loop-t l = gain l.b (between l.t l.to) l.counts ≡ gain l.b (between l.from l.to) l.initial.counts
