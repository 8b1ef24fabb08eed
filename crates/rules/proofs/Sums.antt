-- Sums over numbers, and how many of the columns pass the tests that a block counts by. Assumes nothing.
use mathlib.Core.Path.{◌≡◌, refl, ap, ◌∙◌, ap₂, fun_ext}
use mathlib.Core.Bool.{Bool, true, false, ◌&&◌, cond}
use Prim.Native.Nat.{ℕ, zero, suc, ◌+◌, ◌-◌, ◌*◌, ◌/◌, ◌%◌, ◌≤◌, ◌<◌, min}
use native.Mathlib.Nat.{lt_of_not-le}
use native.Mathlib.Omega.{arith}
use lib.Dec.{leb, ltb, eqb}
use borrow.Author.Tests.{leb-true, leb-false, ltb-true, ltb-false, eqb-true, eqb-false, ne_eqb}
use Rattle.rules.specs.Lists.{bit}
use Rattle.rules.specs.Ladder.{buckets}
use Rattle.rules.specs.Counts.{columns, gains_at}
use Rattle.rules.specs.Report.{sum, gained, GainPromise}

-- ---- sums

pub sum_add : (n : ℕ) (f g : ℕ → ℕ) → sum n (λ i. f i + g i) ≡ sum n f + sum n g
unfolding sum
sum_add zero f g = refl
sum_add (suc n) f g = omega (arith, sum_add n f g)

pub sum_const : (n m : ℕ) → sum n (λ i. m) ≡ n * m
unfolding sum
sum_const zero m = omega arith
sum_const (suc n) m = omega (arith, sum_const n m)

pub sum_ext : (n : ℕ) (f g : ℕ → ℕ) → ((i : ℕ) → f i ≡ g i) → sum n f ≡ sum n g
sum_ext n f g h = ap (sum n) (fun_ext h)

pub sum_below : (n : ℕ) (f g : ℕ → ℕ) → ((i : ℕ) → i < n → f i ≡ g i) → sum n f ≡ sum n g
unfolding sum
sum_below zero f g h = refl
sum_below (suc n) f g h = omega (arith, h n (omega arith), sum_below n f g (λ i q. h i (omega arith)))

-- ---- of tests

-- how many of 1 to n are above r
pub above_sum : (n r : ℕ) → sum n (λ c. bit (ltb r (suc c))) ≡ n - r
unfolding sum
above_sum zero r = omega arith
above_sum (suc n) r = go (ltb r (suc n)) refl (above_sum n r)
  where
    go : (b : Bool) → ltb r (suc n) ≡ b → sum n (λ c. bit (ltb r (suc c))) ≡ n - r → bit b + sum n (λ c. bit (ltb r (suc c))) ≡ suc n - r
    go true e ih = omega (arith, ltb-true r (suc n) e)
    go false e ih = omega (arith, ltb-false r (suc n) e)

-- and of those, how many are not above m
pub between_sum : (n r m : ℕ) → sum n (λ c. bit (ltb r (suc c) && leb (suc c) m)) ≡ min n m - r
unfolding sum
between_sum zero r m = omega arith
between_sum (suc n) r m = go (ltb r (suc n)) (leb (suc n) m) refl refl (between_sum n r m)
  where
    go : (a b : Bool) → ltb r (suc n) ≡ a → leb (suc n) m ≡ b → sum n (λ c. bit (ltb r (suc c) && leb (suc c) m)) ≡ min n m - r
        → bit (a && b) + sum n (λ c. bit (ltb r (suc c) && leb (suc c) m)) ≡ min (suc n) m - r
    go true true e f ih = omega (arith, ltb-true r (suc n) e, leb-true (suc n) m f)
    go true false e f ih = omega (arith, leb-false (suc n) m f)
    go false b e f ih = omega (arith, ltb-false r (suc n) e)

-- the columns above r are 25 less r, or none
pub gained_above : (r : ℕ) → gained (λ c. ltb r c) ≡ columns - r
unfolding gained
gained_above r = above_sum columns r

-- the columns above r up to m
pub gained_between : (r m : ℕ) → gained (λ c. ltb r c && leb c m) ≡ min columns m - r
unfolding gained
gained_between r m = between_sum columns r m

-- ---- a sum of which one part alone is not 0

miss : (n b m : ℕ) → n ≤ b → sum n (λ q. cond (eqb q b) m 0) ≡ 0
unfolding sum
miss zero b m h = refl
miss (suc n) b m h = omega (arith, miss n b m (omega arith), ap (λ (t : Bool). cond t m 0) (ne_eqb n b (λ (e : n ≡ b). let z : suc n ≤ n = omega arith in omega arith)))

-- that of b, if it is one of them
pub pick : (n b m : ℕ) → b < n → sum n (λ q. cond (eqb q b) m 0) ≡ m
unfolding sum
pick zero b m h = omega arith
pick (suc n) b m h = go (eqb n b) refl (pick n b m)
  where
    go : (t : Bool) → eqb n b ≡ t → (b < n → sum n (λ q. cond (eqb q b) m 0) ≡ m) → cond t m 0 + sum n (λ q. cond (eqb q b) m 0) ≡ m
    go true e ih = omega (arith, miss n b m (omega (arith, eqb-true n b e)))
    go false e ih = omega (arith, ih (lt_of_not-le (λ q. eqb-false n b e (omega arith))))

-- ---- the places of all buckets: rows of 25

parts : (n m : ℕ) (f : ℕ → ℕ) → sum (n + m) f ≡ sum n f + sum m (λ c. f (n + c))
unfolding sum
parts n zero f =
    let e : n + 0 ≡ n = omega arith in
    omega (arith, ap (λ (j : ℕ). sum j f) e)
parts n (suc m) f =
    let e : n + suc m ≡ suc (n + m) = omega arith in
    ap (λ (j : ℕ). sum j f) e ∙ omega (arith, parts n m f)

by_rows : (m : ℕ) (f : ℕ → ℕ) → sum (m * columns) f ≡ sum m (λ q. sum columns (λ c. f (q * columns + c)))
unfolding sum
by_rows zero f = refl
by_rows (suc m) f =
    let e : suc m * columns ≡ m * columns + columns = omega arith in
    ap (λ (n : ℕ). sum n f) e ∙ omega (arith, parts (m * columns) columns f, by_rows m f)

row : (b q : ℕ) (gains : ℕ → Bool) → sum columns (λ c. bit (gains_at b gains (q * columns + c))) ≡ cond (eqb q b) (gained gains) 0
unfolding gained
row b q gains = sum_below columns (λ c. bit (gains_at b gains (q * columns + c))) (λ c. bit (eqb q b && gains (suc c))) place ∙ go (eqb q b)
  where
    place : (c : ℕ) → c < columns → bit (gains_at b gains (q * columns + c)) ≡ bit (eqb q b && gains (suc c))
    place c h =
        let d : (q * columns + c) / columns ≡ q = omega arith in
        let m : (q * columns + c) % columns ≡ c = omega arith in
        ap₂ (λ (x y : ℕ). bit (eqb x b && gains (suc y))) d m

    go : (t : Bool) → sum columns (λ c. bit (t && gains (suc c))) ≡ cond t (sum columns (λ c. bit (gains (suc c)))) 0
    go true = refl
    go false = omega (arith, sum_const columns 0)

-- `gain` adds one at as many places as columns pass the test
pub gain_adds : GainPromise
unfolding GainPromise
gain_adds b gains h =
    by_rows buckets (λ n. bit (gains_at b gains n))
    ∙ sum_ext buckets (λ q. sum columns (λ c. bit (gains_at b gains (q * columns + c)))) (λ q. cond (eqb q b) (gained gains) 0) (λ q. row b q gains)
    ∙ pick buckets b (gained gains) h
