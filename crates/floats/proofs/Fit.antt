-- What binary64 holds: at most the largest number, (2 ^ 53 - 1) * 2 ^ 971, in steps of 2 ^ -1074; a zero is written in one way; and each number is its own
-- rounding. Assumes nothing.
use mathlib.Core.Path.{◌≡◌, refl, sym, ap, ◌∙◌, subst}
use mathlib.Core.Bool.{Bool, true, false, not, ◌&&◌}
use Prim.Native.Nat.{ℕ, zero, suc, ◌+◌, ◌-◌, ◌*◌, ◌%◌, ◌^◌, ◌≤◌, ◌<◌, zero-le}
use native.Mathlib.Nat.{mul-one, one-mul, zero-mul, mul_assoc, mul-le-mul, mul-le-mul_right, le-mul_of_pos_right, lt_of_mul-lt-mul_right, mul-lt-mul_of_pos_right, le_of_eq, le_of_lt, le_trans, lt_of_le_of_lt, lt_of_lt_of_le, lt_of_not-le, zero-lt-suc, sub-add_cancel, pow-succ'}
use native.Mathlib.Omega.{arith}
use lib.IntN.{ℤ, pos, negsuc}
use lib.Dec.{T, leb, ltb, eqb, leb→le, nleb→lt, ltb→lt, eqb→eq, lit≤}
use lib.Pow.{pow_pos, pow-add, pow_mono, pow-lt, shl_lt, le_ones}
use lib.Ieee.{Format, fin, binary64, prec, emax, low, up, down, round, fits}
use lib.Ieee.Fits.{and_l, and_r, down_pos, reach}
use lib.Ieee.Exact.{HasValue, round_exact}

-- what fitting says of a number that is not zero
pub record Fit (m : ℕ) (e : ℤ) : Type 0 where
  pub digits : m < 2 ^ 53
  pub fine : down e ≤ 2 ^ 1074
  pub under : m * up e < 2 ^ 1024 * down e

pub fit : (s : Bool) (m : ℕ) (e : ℤ) → T (fits binary64 (fin s (suc m) e)) → Fit (suc m) e
unfolding fits
fit s m e h =
    let A = eqb (suc m % 2) 1 in
    let B = ltb (suc m) (2 ^ 53) in
    let C = leb (down e) (2 ^ 1074) in
    let D = ltb (suc m * up e) (2 ^ 1024 * down e) in
    record {
      digits = ltb→lt (suc m) (2 ^ 53) (and_r A B (and_l (A && B) C (and_l (A && B && C) D h)));
      fine = leb→le (down e) (2 ^ 1074) (and_r (A && B) C (and_l (A && B && C) D h));
      under = ltb→lt (suc m * up e) (2 ^ 1024 * down e) (and_r (A && B && C) D h);
    }

-- ---- a zero has the exponent 0

no_power : (x y : ℕ) → x ≡ 2 * y → 0 < y → x ≡ 1 → ⊥
no_power x y e p h = omega arith

flat : (e : ℤ) → up e * down e ≡ 1 → e ≡ pos 0
flat (pos zero) h = refl
flat (pos (suc a)) h = absurd (no_power (2 ^ suc a) (2 ^ a) (pow-succ' 2 a) (pow_pos a) (sym (mul-one (2 ^ suc a)) ∙ h))
flat (negsuc a) h = absurd (no_power (2 ^ suc a) (2 ^ a) (pow-succ' 2 a) (pow_pos a) (sym (one-mul (2 ^ suc a)) ∙ h))

pub zero_flat : (s : Bool) (e : ℤ) → T (fits binary64 (fin s 0 e)) → e ≡ pos 0
unfolding fits
zero_flat s e h = flat e (eqb→eq (up e * down e) 1 h)

-- ---- the largest number

abbrev pub largest : ℕ
largest = (2 ^ 53 - 1) * 2 ^ 971

top_le : (m : ℕ) (e : ℤ) → Fit m e → m * up e ≤ largest * down e
top_le m (negsuc k) f = le_trans (le_of_eq (mul-one m)) (le_trans (le_of_lt f.digits) (le_trans (lit≤ tt) (le-mul_of_pos_right largest (pow_pos (suc k)))))
top_le m (pos k) f = le_trans (go (leb k 971) (leb→le k 971) (nleb→lt k 971)) (le_of_eq (sym (mul-one largest)))
  where
    go : (b : Bool) → (T b → k ≤ 971) → (T (not b) → 971 < k) → m * 2 ^ k ≤ largest
    go true h g = mul-le-mul (le_ones 53 f.digits) (pow_mono (h tt))
    go false h g =
        let e : 2 ^ k ≡ 2 ^ (k - 971) * 2 ^ 971 = ap (λ (z : ℕ). 2 ^ z) (sym (sub-add_cancel (le_of_lt (g tt)))) ∙ pow-add 2 (k - 971) 971 in
        let a : m * 2 ^ k ≡ m * 2 ^ (k - 971) * 2 ^ 971 = ap (λ (z : ℕ). m * z) e ∙ sym (mul_assoc m (2 ^ (k - 971)) (2 ^ 971)) in
        let b : m * 2 ^ (k - 971) < 2 ^ 53 = lt_of_mul-lt-mul_right (2 ^ 971) (lt_of_le_of_lt (le_of_eq (sym a)) f.under) in
        le_trans (le_of_eq a) (mul-le-mul_right (2 ^ 971) (le_ones 53 b))

pub at_most_largest : (s : Bool) (m : ℕ) (e : ℤ) → T (fits binary64 (fin s m e)) → m * up e ≤ largest * down e
at_most_largest s zero e f = subst (λ (z : ℕ). z ≤ largest * down e) (sym (zero-mul (up e))) zero-le
at_most_largest s (suc m) e f = top_le (suc m) e (fit s m e f)

-- ---- a number that fits is its own rounding

exact_zero : (f : Format) (e : ℤ) → HasValue (round f false (0 * up e) (down e)) false (0 * up e) (down e)
exact_zero f e = round_exact f false (0 * up e) (down e) 0 0 (down_pos e) (pow_pos (prec f)) (pow_pos (low f + suc (emax f))) (omega arith)

pub exact_pos : (f : Format) (m k : ℕ) → m < 2 ^ prec f → m * 2 ^ k < 2 ^ suc (emax f) * 1 → HasValue (round f false (m * 2 ^ k) 1) false (m * 2 ^ k) 1
exact_pos f m k a b =
    let split : m * 2 ^ (k + low f) ≡ m * (2 ^ k * 2 ^ low f) = ap (λ (x : ℕ). m * x) (pow-add 2 k (low f)) in
    round_exact f false (m * 2 ^ k) 1 m (k + low f) (zero-lt-suc 0) a
    (omega (arith, split, pow-add 2 (low f) (suc (emax f)), mul-lt-mul_of_pos_right b (pow_pos (low f))))
    (omega (arith, split))

exact_neg : (f : Format) (m k : ℕ) → m < 2 ^ prec f → 2 ^ suc k ≤ 2 ^ low f → HasValue (round f false (m * 1) (2 ^ suc k)) false (m * 1) (2 ^ suc k)
exact_neg f m k a b =
    let q : suc k ≤ low f = lt_of_not-le (λ n. omega (arith, pow-lt {i = low f} {j = suc k} (omega arith))) in
    let e : 2 ^ low f ≡ 2 ^ (low f - suc k) * 2 ^ suc k = ap (λ (x : ℕ). 2 ^ x) (sym (sub-add_cancel q)) ∙ pow-add 2 (low f - suc k) (suc k) in
    round_exact f false (m * 1) (2 ^ suc k) m (low f - suc k) (pow_pos (suc k)) a
    (lt_of_lt_of_le (shl_lt (prec f) (low f - suc k) a) (pow_mono (omega (arith, reach f))))
    (omega (arith, ap (λ (x : ℕ). m * x) e))

exact : (m : ℕ) (e : ℤ) → Fit m e → HasValue (round binary64 false (m * up e) (down e)) false (m * up e) (down e)
exact m (pos k) f = exact_pos binary64 m k f.digits f.under
exact m (negsuc k) f = exact_neg binary64 m k f.digits f.fine

pub own_rounding : (m : ℕ) (e : ℤ) → T (fits binary64 (fin false m e)) → HasValue (round binary64 false (m * up e) (down e)) false (m * up e) (down e)
own_rounding zero e h = exact_zero binary64 e
own_rounding (suc m) e h = exact (suc m) e (fit false m e h)
