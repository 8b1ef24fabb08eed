use mathlib.Core.Path.{◌≡◌, sym, ap, ◌∙◌}
use Prim.Native.Nat.{ℕ, ◌+◌, ◌*◌, ◌≤◌}
use native.Mathlib.Nat.{mul-le-mul_right}
use native.Mathlib.Omega.{arith}
use lib.ListN.{length, take, drop}
use Rattle.ids.proofs.Records.{record_end}
use Rattle.table.specs.Fields.{field}
use Rattle.table.proofs.Fields.{field_part}
use Rattle.table.proofs.Runs.{running_none, running_on, running_cut, running_end}
use Rattle.expiry.proofs.keep.keep_passing.Goals as goal
use Rattle.expiry.proofs.keep.keep_passing.Goals.{then-not-test, else-not-test}

past : (size used n : ℕ) → n ≤ used → n * size ≤ used * size
past size used n h = mul-le-mul_right size h

pub loop-i-preserved : goal.loop-i-preserved
loop-i-preserved g c =
    let at : ℕ = c.loop-i.i * c.args.size in
    let ends : at + c.args.size ≤ length c.loop-i.table = omega (arith, record_end c.args.size c.args.used c.loop-i.i (omega arith), c.loop-i.invariant.so_far.len, c.requires.1.0.1) in
    -- the test answers for the record
    let told : g.passes (field c.args.off (take c.args.size (drop at c.loop-i.table))) ≡ c.test.result =
    sym (c.requires.1.1.1 _ _ c.u32_le.type_inv c.test.ensures ∙ ap g.passes (c.u32_le.ensures ∙ field_part c.args.size c.args.off at c.loop-i.table c.requires.1.0.0 ends)) in
    elim c.if-not-test.branch [
      | then-not-test w ↦
          rw (w.table-is, w.k-is, w.from-is)
          (running_cut _ _ _ _ c.requires.1.0.1 c.loop-i.invariant _ _ w.keep_run-k.ensures.value w.keep_run-k.ensures.table_after w.keep_run-k.auto.table (omega arith) (told ∙ w.if-not-test.true))
      | else-not-test w ↦
          rw (w.table-is, w.k-is, w.from-is)
          (running_on _ _ _ _ c.requires.1.0.1 c.loop-i.invariant (omega arith) (told ∙ w.if-not-test.false))
    ]

pub returns : goal.returns
returns g c =
    let e : c.loop-i.i ≡ c.args.used = omega (arith, c.loop-i.invariant.i_le) in
    let t = running_end _ _ _ _ c.requires.1.0.1 c.loop-i.invariant e _ _ c.keep_run-k-2.ensures.value c.keep_run-k-2.ensures.table_after c.keep_run-k-2.auto.table in record { value = t.0; table_after = c.zero.ensures ∙ t.1 }

pub loop-i-init : goal.loop-i-init
loop-i-init g c = running_none _ _ _ _
