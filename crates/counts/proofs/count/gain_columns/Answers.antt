use mathlib.Core.Path.{sym, ◌∙◌}
use native.Mathlib.Omega.{arith}
use Rattle.floats.proofs.Bits.{one_is}
use Rattle.counts.proofs.Gain.{gain_none, gain_more}
use Rattle.counts.proofs.count.gain_columns.Goals as goal

pub loop-t-preserved : goal.loop-t-preserved
loop-t-preserved c =
    rw one_is (gain_more c.args.b c.loop-t.t c.args.to c.loop-t.counts (omega arith) (omega arith) (omega arith) ∙ c.loop-t.invariant)

pub returns : goal.returns
returns c = sym (gain_none _ c.loop-t.t _ c.loop-t.counts (omega arith)) ∙ c.loop-t.invariant
