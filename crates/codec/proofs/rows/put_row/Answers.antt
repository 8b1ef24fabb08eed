use mathlib.Core.Path.{◌≡◌, refl, ap, ◌∙◌}
use Prim.Native.Nat.{ℕ, ◌+◌, ◌*◌}
use native.Mathlib.Omega.{arith}
use lib.ListN.{take, drop, get_or}
use lib.Seq.{sets}
use mathlib.Core.List.{List}
use lib.Ieee.{binary64, to_bits, nan}
use Rattle.rules.specs.Bytes.{bytes}
use Rattle.codec.proofs.Counts.{part_at, put_more}
use Rattle.format.proofs.ExactCounts.{sound_no_nan}
use Rattle.format.specs.File.{row_bytes}
use Rattle.rules.specs.Records.{joined}
use Rattle.codec.proofs.rows.put_row.Goals as goal

pub loop-i-init : goal.loop-i-init
unfolding row_bytes joined
loop-i-init c = refl

pub float_to_bits-counts : goal.float_to_bits-counts
float_to_bits-counts c =
    sound_no_nan _ (part_at c.args.counts.now c.args.from 25 c.loop-i.i (omega arith) (omega arith) c.requires.counts_value)

pub loop-i-preserved : goal.loop-i-preserved
loop-i-preserved c =
    let x = to_bits binary64 (get_or c.args.counts.now (c.args.from + c.loop-i.i) nan) in
    c.put_u64.ensures
    ∙ ap (λ (o : List ℕ). sets o (c.args.at + 8 * c.loop-i.i) (bytes 8 x)) c.loop-i.invariant
    ∙ put_more c.args.out.now c.args.at c.args.counts.now c.args.from c.loop-i.i (omega arith)

pub returns : goal.returns
returns c =
    let e : c.loop-i.i ≡ 25 = omega arith in
    c.loop-i.invariant ∙ ap (λ (k : ℕ). sets c.args.out.now c.args.at (row_bytes (take k (drop c.args.from c.args.counts.now)))) e
