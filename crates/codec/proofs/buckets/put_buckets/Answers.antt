use mathlib.Core.Path.{◌≡◌, refl, ap, ◌∙◌}
use mathlib.Core.List.{List, [], ◌∷◌}
use Prim.Native.Nat.{ℕ, ◌+◌, ◌*◌}
use native.Mathlib.Omega.{arith}
use lib.ListN.{drop}
use lib.Seq.{sets}
use Rattle.rules.specs.Ladder.{ladder}
use Rattle.format.specs.File.{rates, rates_from, bucket_bytes}
use Rattle.codec.proofs.Written.{sound_long, sound_row, some_buckets, buckets_more}
use Rattle.codec.proofs.buckets.put_buckets.Goals as goal

pub loop-i-init : goal.loop-i-init
unfolding rates_from bucket_bytes
loop-i-init c = refl

pub put_bucket-requires : goal.put_bucket-requires
put_bucket-requires c =
    let p = sound_long _ c.requires.confirmed_value.0 in
    let q = sound_long _ c.requires.confirmed_value.1 in record { bucket_size_in_bounds = (omega arith, (omega arith, omega arith)); confirmed_value = sound_row _ (25 * c.loop-i.i) c.requires.confirmed_value.0 (omega arith); resolved_value = sound_row _ (25 * c.loop-i.i) c.requires.confirmed_value.1 (omega arith) }

pub loop-i-preserved : goal.loop-i-preserved
loop-i-preserved c =
    c.put_bucket.ensures
    ∙ ap (λ (r : ℕ). sets c.loop-i.out (c.args.at + 408 * c.loop-i.i) (bucket_bytes (r ∷ []) (drop (25 * c.loop-i.i) c.args.confirmed.now) (drop (25 * c.loop-i.i) c.args.resolved.now))) c.rate_at.ensures
    ∙ ap (λ (o : List ℕ). sets o (c.args.at + 408 * c.loop-i.i) (bucket_bytes (ladder c.loop-i.i ∷ []) (drop (25 * c.loop-i.i) c.args.confirmed.now) (drop (25 * c.loop-i.i) c.args.resolved.now))) c.loop-i.invariant
    ∙ buckets_more c.args.out.now c.args.at c.loop-i.i c.args.confirmed.now c.args.resolved.now (omega arith) (sound_long c.args.confirmed.now c.requires.confirmed_value.0) (sound_long c.args.resolved.now c.requires.confirmed_value.1)

pub returns : goal.returns
unfolding rates
returns c =
    let e : c.loop-i.i ≡ 142 = omega arith in
    c.loop-i.invariant ∙ ap (λ (k : ℕ). sets c.args.out.now c.args.at (some_buckets k c.args.confirmed.now c.args.resolved.now)) e
