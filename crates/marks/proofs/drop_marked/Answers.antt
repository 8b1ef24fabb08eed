use mathlib.Core.Path.{◌≡◌, ◌∙◌}
use Prim.Native.Nat.{ℕ, ◌*◌, ◌≤◌}
use native.Mathlib.Omega.{arith}
use native.Mathlib.Nat.{mul-le-mul_right}
use Rattle.marks.proofs.Dropping.{dropping_none, dropping_more, dropping_end}
use Rattle.marks.proofs.drop_marked.Goals as goal
use Rattle.marks.proofs.drop_marked.Goals.{Start}

past : (s : Start) (k : ℕ) → k ≤ s.args.used → k * s.args.size ≤ s.args.used * s.args.size
past s k h = mul-le-mul_right s.args.size h

pub loop-i-init : goal.loop-i-init
loop-i-init c = dropping_none _ _ _ _

pub loop-i-preserved : goal.loop-i-preserved
loop-i-preserved c =
    dropping_more _ _ _ _ c.loop-i.k c.loop-i.i c.keep_record-k.result c.loop-i.table c.keep_record-k.new.table c.loop-i-test.true c.requires.1.1 c.loop-i.invariant c.keep_record-k.ensures c.keep_record-k.auto.table

pub returns : goal.returns
returns c =
    let e : c.loop-i.i ≡ c.args.used = omega (arith, c.loop-i.invariant.i_le) in
    let n = dropping_end c.args.size c.args.used c.args.marks.now c.args.table.now c.loop-i.k c.loop-i.table (rw e at c.loop-i.invariant) in record { value = n.0; table_after = c.zero.ensures ∙ n.1 }
