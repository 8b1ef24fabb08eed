use mathlib.Core.Path.{◌≡◌, refl, sym, ◌∙◌}
use native.Mathlib.Omega.{arith}
use lib.ListN.{length-set}
use lib.Seq.{take_all}
use Rattle.codec.specs.Places.{doubles}
use Rattle.codec.proofs.Counts.{count_bits, rest_begin, rest_true, row_more}
use Rattle.codec.proofs.rows.row_counts.Goals as goal

pub loop-i-init : goal.loop-i-init
unfolding doubles
loop-i-init c = (refl, refl, sym (rest_begin c.args.s.now c.args.at (omega arith)) ∙ c.requires.1)

pub float_from_bits-counts : goal.float_from_bits-counts
float_from_bits-counts c =
    count_bits c.u64_le.result (rest_true c.args.s.now c.args.at c.loop-i.i c.u64_le.result (omega arith) c.u64_le.ensures c.loop-i.invariant.2).0

pub loop-i-preserved : goal.loop-i-preserved
loop-i-preserved c = (
  simp length-set c.loop-i.invariant.0,
  row_more c.args.s.now c.args.at c.loop-i.i c.u64_le.result c.loop-i.counts (omega arith) c.loop-i.invariant.1 c.u64_le.ensures,
  (rest_true c.args.s.now c.args.at c.loop-i.i c.u64_le.result (omega arith) c.u64_le.ensures c.loop-i.invariant.2).1,
)

pub returns : goal.returns
returns c =
    let e : c.loop-i.i ≡ 25 = omega arith in
    sym (take_all 25 c.loop-i.counts (omega arith)) ∙ (rw e at c.loop-i.invariant.1)
