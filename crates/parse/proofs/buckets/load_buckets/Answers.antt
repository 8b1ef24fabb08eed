use mathlib.Core.Path.{◌≡◌, refl, ap, ap₂, ◌∙◌}
use mathlib.Core.List.{List}
use Prim.Native.Nat.{ℕ, ◌+◌, ◌*◌, ◌≤◌, zero-le}
use native.Mathlib.Omega.{arith}
use lib.ListN.{length, take, drop}
use lib.Seq.{sets, length-sets}
use lib.Ieee.{Float}
use Rattle.codec.specs.Places.{doubles, bucket_size, rows_at}
use Rattle.codec.proofs.Loaded.{row_part, bucket_long, rows_read, rows_more, rows_end}
use Rattle.parse.proofs.buckets.load_buckets.Goals as goal

-- a turn: one row more stands behind those that are stored
turn : (o x : List Float) (s : List ℕ) (at i off : ℕ) (b : List ℕ) → b ≡ take bucket_size (drop (at + 408 * i) s) → off + 8 * 25 ≤ bucket_size → (y : List Float)
    → x ≡ sets o 0 (rows_at i s (at + off)) → y ≡ sets x (25 * i) (doubles 25 b off) → y ≡ sets o 0 (rows_at (i + 1) s (at + off))
turn o x s at i off b e h y f g =
    g ∙ ap₂ (λ (z r : List Float). sets z (25 * i) r) f (row_part s (at + 408 * i) b e 25 off h) ∙ rows_more o s at i off

pub loop-i-init : goal.loop-i-init
unfolding rows_at
loop-i-init c = (zero-le, ((refl, refl), (refl, refl)))

pub load_bucket-requires : goal.load_bucket-requires
load_bucket-requires c =
    let f = bucket_long c.args.s.now (c.args.at + 408 * c.loop-i.i) c.part-bytes.result.now c.part-bytes.ensures (omega arith) in record { bucket_size_in_bounds = (omega (arith, f), (omega arith, omega arith, omega arith)); s_value = rows_read c.args.s.now c.args.at (omega arith) c.requires.s_value c.loop-i.i (omega arith) c.part-bytes.result.now c.part-bytes.ensures }

pub loop-i-preserved : goal.loop-i-preserved
loop-i-preserved c =
    let d = turn c.args.confirmed.now c.loop-i.confirmed c.args.s.now c.args.at c.loop-i.i 8 c.part-bytes.result.now c.part-bytes.ensures (omega arith) _ c.loop-i.invariant.1.1.0 c.load_bucket.ensures.0 in
    let e = turn c.args.resolved.now c.loop-i.resolved c.args.s.now c.args.at c.loop-i.i 208 c.part-bytes.result.now c.part-bytes.ensures (omega arith) _ c.loop-i.invariant.1.1.1 c.load_bucket.ensures.1 in
    (omega arith, ((ap length d ∙ simp length-sets, ap length e ∙ simp length-sets), (d, e)))

pub returns : goal.returns
returns c =
    let e : c.loop-i.i ≡ 142 = omega arith in (
      c.loop-i.invariant.1.1.0 ∙ ap (λ (k : ℕ). sets c.args.confirmed.now 0 (rows_at k c.args.s.now (c.args.at + 8))) e ∙ rows_end c.args.confirmed.now c.args.s.now (c.args.at + 8) (omega arith),
      c.loop-i.invariant.1.1.1 ∙ ap (λ (k : ℕ). sets c.args.resolved.now 0 (rows_at k c.args.s.now (c.args.at + 208))) e ∙ rows_end c.args.resolved.now c.args.s.now (c.args.at + 208) (omega arith),
    )
