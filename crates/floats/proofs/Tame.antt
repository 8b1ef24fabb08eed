-- Numbers without a sign of at most n times 2 ^ 53. One more and the decay keep a number of at most 2 ^ 53 there, since 2 ^ 53 + 1 rounds to 2 ^ 53, and a
-- sum lies within the sum of the bounds, far from infinity. Assumes nothing.
use mathlib.Core.Path.{◌≡◌, refl, sym, ap, subst}
use mathlib.Core.Bool.{false}
use Prim.Native.Nat.{ℕ, ◌+◌, ◌*◌, ◌^◌, ◌≤◌, ◌<◌, zero-le}
use native.Mathlib.Nat.{lt_of_lt_of_le, zero-lt-suc, mul-le-mul_right, mul-pos, le_of_mul-le-mul_right}
use native.Mathlib.Omega.{arith}
use lib.IntN.{pos}
use lib.Dec.{T, lit≤}
use lib.Pow.{shl_lt}
use lib.Ieee.{Float, binary64, round, fits, add, mul, le}
use lib.Ieee.Fits.{round-fits}
use lib.Ieee.Exact.{HasValue}
use lib.Ieee.Order.{round_mono}
use lib.Ieee.Positive.{num, den, den_pos, value→cross}
use Rattle.rules.specs.Counts.{nought, one, one_more}
use Rattle.floats.proofs.Fit.{exact_pos}
use Rattle.floats.specs.Factor.{Factor}
use Rattle.floats.proofs.Count.{factor_unsigned, times_bound}
use Rattle.floats.proofs.Unsigned.{Unsigned, number, unsigned_one, unsigned_of_value, le→cross, rounds_unsigned, add_is, mul_is, add_mono, one_more_le}

pub record Tame (n : ℕ) (x : Float) : Type 0 where
  pub no_sign : Unsigned x
  pub fit : T (fits binary64 x)
  pub most : num x ≤ n * 2 ^ 53 * den x

pub nought_tame : (n : ℕ) → Tame n nought
unfolding fits
nought_tame n = record { no_sign = number 0 (pos 0); fit = tt; most = zero-le }

-- ---- what rounds to such a number

cancel : (z w n d e : ℕ) → 0 < d → w * 1 ≡ n * d → z * d ≤ w * e → z ≤ n * e
cancel z w n d e p q h = le_of_mul-le-mul_right {k = d} (omega (arith, h, ap (λ (x : ℕ). x * e) q)) p

-- each fraction a / c that is not above one, b / d, that rounds to n times 2 ^ 53
round_tame : (n b d : ℕ) → HasValue (round binary64 false b d) false (n * 2 ^ 53) 1 → 0 < d → (a c : ℕ) → 0 < c → a * d ≤ b * c → Tame n (round binary64 false a c)
round_tame n b d v D a c C h =
    let z = round binary64 false a c in
    let top = round binary64 false b d in
    let u : Unsigned top = unsigned_of_value top (n * 2 ^ 53) 1 v in
    let w : Unsigned z = rounds_unsigned a c b d C D h u in
    record {
      no_sign = w;
      fit = round-fits binary64 false a c;
      most = cancel (num z) (num top) (n * 2 ^ 53) (den top) (den z) (den_pos top) (value→cross top (n * 2 ^ 53) 1 v) (le→cross w u (round_mono binary64 a c b d C D h));
    }

-- n times 2 ^ 53 itself, which fits
within : (n : ℕ) → n < 2 ^ 53 → (a c : ℕ) → 0 < c → a ≤ n * 2 ^ 53 * c → Tame n (round binary64 false a c)
within n s a c C h = round_tame n (n * 2 ^ 53) 1 (exact_pos binary64 n 53 s (lt_of_lt_of_le (shl_lt 53 53 s) (lit≤ tt))) (zero-lt-suc 0) a c C (omega arith)

-- and 2 ^ 53 + 1, which rounds to 2 ^ 53
one_over : HasValue (round binary64 false (2 ^ 53 + 1) 1) false (1 * 2 ^ 53) 1
unfolding round
one_over = (refl, refl)

-- ---- one more, the decay, a sum

pub one_more_tame : {x : Float} → Tame 1 x → Tame 1 (one_more x)
one_more_tame {x} t = subst (Tame 1) (sym (add_is t.no_sign unsigned_one))
    (round_tame 1 (2 ^ 53 + 1) 1 one_over (zero-lt-suc 0) (num x * den one + num one * den x) (den x * den one) (mul-pos (den_pos x) (den_pos one)) (omega (arith, t.most)))

pub decay_tame : {n : ℕ} {x d : Float} → n < 2 ^ 53 → Factor d → Tame n x → Tame n (mul binary64 x d)
decay_tame {n} {x} {d} s q t =
    let u : Unsigned d = factor_unsigned q in
    subst (Tame n) (sym (mul_is t.no_sign u))
    (within n s (num x * num d) (den x * den d) (mul-pos (den_pos x) (den_pos d)) (times_bound (n * 2 ^ 53) (num x) (den x) (num d) (den d) t.most (le→cross u unsigned_one q.at_most_one)))

sum_bound : (m n a b c d : ℕ) → a ≤ m * 2 ^ 53 * c → b ≤ n * 2 ^ 53 * d → a * d + b * c ≤ (m + n) * 2 ^ 53 * (c * d)
sum_bound m n a b c d h k = omega (arith, mul-le-mul_right d h, mul-le-mul_right c k)

pub add_tame : {m n : ℕ} {x y : Float} → m + n < 2 ^ 53 → Tame m x → Tame n y → Tame (m + n) (add binary64 x y)
add_tame {m} {n} {x} {y} s t u = subst (Tame (m + n)) (sym (add_is t.no_sign u.no_sign))
    (within (m + n) s (num x * den y + num y * den x) (den x * den y) (mul-pos (den_pos x) (den_pos y)) (sum_bound m n (num x) (num y) (den x) (den y) t.most u.most))

-- ---- more ones never give less

pub one_more_grows : {x : Float} → Tame 1 x → T (le x (one_more x))
one_more_grows t = one_more_le t.no_sign t.fit (one_more_tame t).no_sign

pub one_more_mono : {x y : Float} → Tame 1 x → Tame 1 y → T (le x y) → T (le (one_more x) (one_more y))
unfolding le
one_more_mono t u h = add_mono t.no_sign unsigned_one u.no_sign unsigned_one h tt
