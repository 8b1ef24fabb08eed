use mathlib.Core.Path.{◌≡◌, sym, ap, ◌∙◌}
use mathlib.Core.List.{List}
use Prim.Native.Nat.{ℕ, ◌+◌, ◌*◌, ◌/◌}
use native.Mathlib.Omega.{arith}
use lib.ListN.{length, get_or, set, length-set}
use lib.Seq.{take_all}
use Rattle.lists.proofs.Swept.{swept_more}
use Rattle.script.specs.Hex.{hex_bytes}
use Rattle.script.proofs.Hexes.{length_hex, hex_at, hex_digit}
use Rattle.script.proofs.Reading.{digit_value}
use Rattle.script.proofs.hex.unhex.Goals as goal

pub unwrap-high-requires : goal.unwrap-high-requires
unwrap-high-requires c = rw c.digit.ensures (hex_digit c.args.word.now (2 * c.loop-i.i) c.requires.0 (omega arith))

pub unwrap-low-requires : goal.unwrap-low-requires
unwrap-low-requires c = rw c.digit-in-loop-i.ensures (hex_digit c.args.word.now (2 * c.loop-i.i + 1) c.requires.0 (omega arith))

pub loop-i-preserved : goal.loop-i-preserved
loop-i-preserved c =
    let high = digit_value _ _ (sym c.digit.ensures ∙ c.unwrap-high.ensures) in
    let low = digit_value _ _ (sym c.digit-in-loop-i.ensures ∙ c.unwrap-low.ensures) in
    let v : c.unwrap-high.result * 16 + c.unwrap-low.result ≡ get_or (hex_bytes c.args.word.now) c.loop-i.i 0 =
    rw (sym high.0, sym low.0) (sym (hex_at c.args.word.now c.loop-i.i (omega arith))) in
    let n = length_hex c.args.word.now in record {
      same_length = length-set c.loop-i.out c.loop-i.i _ ∙ c.loop-i.invariant.same_length;
      swept_so_far = ap (set c.loop-i.out c.loop-i.i) v ∙ ap (λ (o : List ℕ). set o c.loop-i.i (get_or (hex_bytes c.args.word.now) c.loop-i.i 0)) c.loop-i.invariant.swept_so_far
          ∙ swept_more c.args.out.now (hex_bytes c.args.word.now) c.loop-i.i 0 (omega arith) (omega arith);
    }

pub returns : goal.returns
returns c =
    let n = length_hex c.args.word.now in
    let e : c.loop-i.i ≡ length c.args.word.now / 2 = omega arith in
    c.loop-i.invariant.swept_so_far ∙ rw (e, take_all (length c.args.word.now / 2) (hex_bytes c.args.word.now) (omega arith))
