use mathlib.Core.Path.{refl, ◌∙◌}
use native.Mathlib.Omega.{arith}
use lib.Ieee.{nan}
use Rattle.rules.specs.Counts.{apply_decay}
use Rattle.lists.proofs.Upto.{start, step, stop, whole}
use Rattle.decay.proofs.decay_row.Goals as goal

pub loop-count-init : goal.loop-count-init
loop-count-init c = start (omega arith)

pub loop-count-preserved : goal.loop-count-preserved
loop-count-preserved c = step nan c.loop-count.invariant (omega arith) refl

pub returns : goal.returns
unfolding apply_decay
returns c = stop c.loop-count.invariant (omega arith) ∙ whole _ _ 25 (omega arith)
