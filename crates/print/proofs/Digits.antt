-- The digits of a number, put from the last one on. Assumes nothing.
use mathlib.Core.Path.{◌≡◌, refl, ap, ◌∙◌}
use mathlib.Core.List.{List, ◌++◌, append_assoc}
use Prim.Native.Nat.{ℕ, zero, suc, ◌+◌, ◌-◌, ◌*◌, ◌/◌, ◌%◌, ◌^◌, ◌≤◌, ◌<◌}
use native.Mathlib.Nat.{not-suc-le-zero, pow-succ'}
use native.Mathlib.Numerals.{add-one}
use native.Mathlib.Omega.{arith}
use borrow.Author.Tests.{le-ltb, lt-ltb}
use lib.ListN.{length, set, drop}
use Rattle.std.proofs.lemmas.List.{drop-set}
use Rattle.print.specs.Numerals.{decimal_in}

-- a number of one digit
pub first_digit : (k n : ℕ) (text : List ℕ) → n < 10 → 0 < k → k ≤ length text → drop (k - 1) (set text (k - 1) (48 + n)) ≡ decimal_in k n ++ drop k text
unfolding decimal_in
first_digit zero n text h p l = absurd (not-suc-le-zero p)
first_digit (suc k) n text h p l =
    let e : suc k - 1 ≡ k = omega arith in
    rw (e, lt-ltb n 10 h) (drop-set text k (48 + n) l ∙ rw add-one refl)

-- the last digit, before what stands there already
pub last_digit : (k n : ℕ) (text : List ℕ) → 10 ≤ n → 0 < k → k ≤ length text
    → decimal_in (k - 1) (n / 10) ++ drop (k - 1) (set text (k - 1) (48 + n % 10)) ≡ decimal_in k n ++ drop k text
unfolding decimal_in
last_digit zero n text h p l = absurd (not-suc-le-zero p)
last_digit (suc k) n text h p l =
    let e : suc k - 1 ≡ k = omega arith in
    rw (e, le-ltb n 10 h, append_assoc) (ap (λ (t : List ℕ). decimal_in k (n / 10) ++ t) (drop-set text k (48 + n % 10) l ∙ rw add-one refl))

-- with the last digit gone there is one place less to fill
pub one_less : (k n : ℕ) → 10 ≤ n → 0 < k → n < 10 ^ k → (0 < k - 1) × (n / 10 < 10 ^ (k - 1))
one_less zero n h p l = absurd (not-suc-le-zero p)
one_less (suc zero) n h p l = absurd (omega arith)
one_less (suc (suc k)) n h p l =
    let e : suc (suc k) - 1 ≡ suc k = omega arith in
    let f : 10 ^ suc (suc k) ≡ 10 * 10 ^ suc k = pow-succ' 10 (suc k) in
    rw e (omega arith, omega arith)
