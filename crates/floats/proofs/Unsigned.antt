-- Numbers that are finite and have no sign, zero among them: each is a fraction num / den, their order is that of the fractions, and a sum, a product or a
-- quotient of two is one rounding, which keeps the order. Assumes nothing.
use mathlib.Core.Path.{◌≡◌, refl, sym, ap, subst, ◌∙◌}
use mathlib.Core.Bool.{Bool, true, false, ◌&&◌, ◌||◌, true≢false}
use Prim.Native.Nat.{ℕ, ◌+◌, ◌*◌, ◌^◌, ◌≤◌, ◌<◌}
use native.Mathlib.Nat.{le_refl, le_of_eq, le_of_lt, mul-pos, mul-le-mul_right, zero-lt-suc}
use native.Mathlib.Omega.{arith}
use borrow.Author.Tests.{le-ltb, ne_eqb}
use lib.IntN.{ℤ, pos}
use lib.Dec.{T, ltb, eqb, ltb→lt, eqb→eq}
use lib.Ieee.{Float, nan, inf, fin, binary64, low, up, down, round, fits, add, mul, div, le, lt}
use lib.Ieee.Exact.{HasValue}
use lib.Ieee.Order.{le_of_values, round_mono}
use lib.Ieee.Fits.{down_pos}
use lib.Ieee.Scale.{finite as is_finite, grid, round_val, round_under, round_same}
use lib.Ieee.Positive.{num, den, den_pos, through}
use Rattle.rules.specs.Counts.{nought, one, one_more, finite, sound_count}
use Rattle.floats.proofs.Fit.{own_rounding}

-- m * 2 ^ e
pub data Unsigned : Float → Type 0 where
  number : (m : ℕ) (e : ℤ) → Unsigned (fin false m e)

pub unsigned_one : Unsigned one
unsigned_one = number 1 (pos 0)

pub unsigned_of_value : (x : Float) (a c : ℕ) → HasValue x false a c → Unsigned x
unsigned_of_value nan a c h = absurd h
unsigned_of_value (inf s) a c h = absurd h
unsigned_of_value (fin true m e) a c h = absurd (true≢false h.0)
unsigned_of_value (fin false m e) a c h = number m e

own_value : {x : Float} → Unsigned x → HasValue x false (num x) (den x)
own_value (number m e) = (refl, refl)

pub unsigned_sound : {x : Float} → Unsigned x → sound_count x ≡ true
unfolding sound_count finite lt
unsigned_sound (number m e) = rw (le-ltb (m * up e * 1) (0 * 1 * down e) (omega arith))

-- ---- the order

less_or_same : (a b : ℕ) → T (ltb a b || (eqb a b && true)) → a ≤ b
less_or_same a b = go (ltb a b) (eqb a b) (ltb→lt a b) (eqb→eq a b)
  where
    go : (s t : Bool) → (T s → a < b) → (T t → a ≡ b) → T (s || (t && true)) → a ≤ b
    go true t f g h = le_of_lt (f tt)
    go false true f g h = le_of_eq (g tt)
    go false false f g h = absurd h

pub le→cross : {x y : Float} → Unsigned x → Unsigned y → T (le x y) → num x * den y ≤ num y * den x
unfolding le
le→cross (number m e) (number n d) h = less_or_same (m * up e * down d) (n * up d * down e) h

cross→le : {x y : Float} → Unsigned x → Unsigned y → num x * den y ≤ num y * den x → T (le x y)
cross→le {x} {y} p q h = le_of_values x y (num x) (den x) (num y) (den y) (den_pos x) (den_pos y) (own_value p) (own_value q) h

pub le_trans : {x y z : Float} → Unsigned x → Unsigned y → Unsigned z → T (le x y) → T (le y z) → T (le x z)
le_trans {x} {y} {z} p q r h k = cross→le p r (through (num x) (num y) (num z) (den x) (den y) (den z) (den_pos y) (le→cross p q h) (le→cross q r k))

-- ---- rounding

zero_round : (s : Bool) → round binary64 s 0 1 ≡ fin s 0 (pos 0)
unfolding round
zero_round true = refl
zero_round false = refl

-- two numbers that are roundings have the order of the fractions that were rounded
pub rounded_le : {x y : Float} (a c b d : ℕ) → x ≡ round binary64 false a c → y ≡ round binary64 false b d → 0 < c → 0 < d → a * d ≤ b * c → T (le x y)
rounded_le {x} {y} a c b d e f C D h = subst (λ (v : Float). T (le v y)) (sym e) (subst (λ (w : Float). T (le (round binary64 false a c) w)) (sym f) (round_mono binary64 a c b d C D h))

pub not_below_zero : {x : Float} (a c : ℕ) → x ≡ round binary64 false a c → 0 < c → T (le nought x)
not_below_zero a c e C = rounded_le 0 1 a c (sym (zero_round false)) e (zero-lt-suc 0) C (omega arith)

caught : (z : Float) {top : Float} → Unsigned top → T (le nought z) → T (le z top) → T (is_finite z)
unfolding le
caught nan u h k = absurd h
caught (inf true) u h k = absurd h
caught (inf false) (number n d) h k = absurd k
caught (fin s m e) u h k = tt

-- a fraction not above one that rounds to a number without a sign rounds to one too
pub rounds_unsigned : (a c b d : ℕ) → 0 < c → 0 < d → a * d ≤ b * c → Unsigned (round binary64 false b d) → Unsigned (round binary64 false a c)
rounds_unsigned a c b d C D h u =
    let z = round binary64 false a c in
    unsigned_of_value z (grid binary64 a c) (2 ^ low binary64) (round_val binary64 a c (round_under binary64 a c (caught z u (not_below_zero a c refl C) (round_mono binary64 a c b d C D h))))

-- ---- the operations

pub add_is : {x y : Float} → Unsigned x → Unsigned y → add binary64 x y ≡ round binary64 false (num x * den y + num y * den x) (den x * den y)
unfolding add
add_is (number m e) (number n d) = refl

pub mul_is : {x y : Float} → Unsigned x → Unsigned y → mul binary64 x y ≡ round binary64 false (num x * num y) (den x * den y)
unfolding mul
mul_is (number m e) (number n d) = refl

pub div_is : {x y : Float} → Unsigned x → Unsigned y → 0 < num y → div binary64 x y ≡ round binary64 false (num x * den y) (num y * den x)
unfolding div
div_is (number m e) (number n d) h = rw (ne_eqb n 0 (λ z. omega (arith, ap (λ (k : ℕ). k * up d) z)))

-- no part of anything rounds to zero, with its sign
zero_fraction : (s : Bool) (a c : ℕ) → a ≡ 0 → 0 < c → round binary64 s a c ≡ fin s 0 (pos 0)
zero_fraction s a c e C = round_same binary64 s a c 0 1 C (zero-lt-suc 0) (omega arith) ∙ zero_round s

-- a zero times such a number is that zero
pub zero_times : (s : Bool) {d : Float} → Unsigned d → mul binary64 (fin s 0 (pos 0)) d ≡ fin s 0 (pos 0)
unfolding mul
zero_times true (number n g) = zero_fraction true (0 * 1 * (n * up g)) (1 * down g) (omega arith) (mul-pos (zero-lt-suc 0) (down_pos g))
zero_times false (number n g) = zero_fraction false (0 * 1 * (n * up g)) (1 * down g) (omega arith) (mul-pos (zero-lt-suc 0) (down_pos g))

-- ---- and the order after them

sum_order : (a b c d a' b' c' d' : ℕ) → a * c' ≤ a' * c → b * d' ≤ b' * d → (a * d + b * c) * (c' * d') ≤ (a' * d' + b' * c') * (c * d)
sum_order a b c d a' b' c' d' h k = omega (arith, mul-le-mul_right (d * d') h, mul-le-mul_right (c * c') k)

pub add_mono : {x y x' y' : Float} → Unsigned x → Unsigned y → Unsigned x' → Unsigned y' → T (le x x') → T (le y y') → T (le (add binary64 x y) (add binary64 x' y'))
add_mono {x} {y} {x'} {y'} p q p' q' h k =
    rounded_le (num x * den y + num y * den x) (den x * den y) (num x' * den y' + num y' * den x') (den x' * den y') (add_is p q) (add_is p' q') (mul-pos (den_pos x) (den_pos y)) (mul-pos (den_pos x') (den_pos y'))
    (sum_order (num x) (num y) (den x) (den y) (num x') (num y') (den x') (den y') (le→cross p p' h) (le→cross q q' k))

pub mul_mono : {x y d : Float} → Unsigned x → Unsigned y → Unsigned d → T (le x y) → T (le (mul binary64 x d) (mul binary64 y d))
mul_mono {x} {y} {d} p q r h =
    rounded_le (num x * num d) (den x * den d) (num y * num d) (den y * den d) (mul_is p r) (mul_is q r) (mul-pos (den_pos x) (den_pos d)) (mul-pos (den_pos y) (den_pos d))
    (omega (arith, mul-le-mul_right (num d * den d) (le→cross p q h)))

-- one more is not less, where it is finite: a number that fits is its own rounding
pub one_more_le : {x : Float} → Unsigned x → T (fits binary64 x) → Unsigned (one_more x) → T (le x (one_more x))
one_more_le (number m e) f q =
    let x = fin false m e in
    let z = round binary64 false (num x) (den x) in
    let v : HasValue z false (num x) (den x) = own_rounding m e f in
    le_trans (number m e) (unsigned_of_value z (num x) (den x) v) q
    (le_of_values x z (num x) (den x) (num x) (den x) (den_pos x) (den_pos x) (own_value (number m e)) v (le_refl (num x * den x)))
    (rounded_le (num x) (den x) (num x * den one + num one * den x) (den x * den one) refl (add_is (number m e) unsigned_one) (den_pos x) (mul-pos (den_pos x) (den_pos one)) (omega arith))
