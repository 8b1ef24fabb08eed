-- The ratio of two numbers without a sign, the first not above the second and the second not zero, lies from 0.0 to 1.0 as it is rounded: 0 and 1 are their
-- own roundings. Assumes nothing.
use mathlib.Core.Path.{◌≡◌, refl}
use mathlib.Core.Bool.{false}
use Prim.Native.Nat.{◌*◌, ◌<◌}
use native.Mathlib.Nat.{mul-pos, zero-lt-suc}
use native.Mathlib.Omega.{arith}
use lib.Dec.{T}
use lib.Ieee.{Float, binary64, round, div, le}
use lib.Ieee.Positive.{num, den, den_pos}
use Rattle.rules.specs.Counts.{nought, one}
use Rattle.floats.proofs.Unsigned.{Unsigned, le→cross, rounded_le, not_below_zero, div_is}

pub record Ratio (x : Float) : Type 0 where
  pub least : T (le nought x)
  pub most : T (le x one)

one_round : one ≡ round binary64 false 1 1
unfolding round
one_round = refl

pub ratio : {x y : Float} → Unsigned x → Unsigned y → 0 < num y → T (le x y) → Ratio (div binary64 x y)
ratio {x} {y} p q h k = record {
  least = not_below_zero (num x * den y) (num y * den x) (div_is p q h) (mul-pos h (den_pos x));
  most = rounded_le (num x * den y) (num y * den x) 1 1 (div_is p q h) one_round (mul-pos h (den_pos x)) (zero-lt-suc 0) (omega (arith, le→cross p q k));
}
