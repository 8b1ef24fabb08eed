use mathlib.Core.Path.{◌≡◌, sym, ap, ◌∙◌}
use native.Mathlib.Numerals.{add-one}
use native.Mathlib.Omega.{arith}
use Rattle.rules.specs.Counts.{apply_decay}
use Rattle.decay.proofs.Often.{none, once_more}
use Rattle.decay.proofs.row_decayed.Goals as goal

pub loop-init : goal.loop-init
loop-init c = sym (none _ _)

pub loop-preserved : goal.loop-preserved
loop-preserved c = c.decay_row.ensures ∙ ap (apply_decay c.args.factor) c.loop.invariant ∙ rw add-one (once_more c.loop.counter c.args.factor c.args.row)

pub returns : goal.returns
returns c =
    let e : c.loop.counter ≡ c.args.times = omega arith in
    c.loop.invariant ∙ rw e
