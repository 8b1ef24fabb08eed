use native.Mathlib.Omega.{arith}
use Rattle.settle.proofs.Thinning.{kept_none, thinning_none, thinning_more, thinning_end}
use Rattle.settle.proofs.once.drop_repeats.Goals as goal

pub returns-then-used-eq0 : goal.returns-then-used-eq0
returns-then-used-eq0 c = kept_none c.args.size c.args.used c.args.table.now c.if-used-eq0.true

pub loop-i-init : goal.loop-i-init
loop-i-init c = thinning_none c.args.size c.args.used c.args.table.now c.requires.1 (omega arith)

pub loop-i-preserved : goal.loop-i-preserved
loop-i-preserved c =
    thinning_more c.args.size c.args.used c.args.table.now c.requires.1 c.loop-i.table c.keep_other-k.new.table c.loop-i.k c.loop-i.i c.keep_other-k.result c.loop-i.invariant c.requires.0 (omega arith) c.keep_other-k.ensures c.keep_other-k.auto.table

pub returns : goal.returns
returns c =
    thinning_end c.args.size c.args.used c.args.table.now c.requires.1 c.loop-i.table c.loop-i.table c.loop-i.k c.loop-i.i 0 c.loop-i.invariant (omega arith)
