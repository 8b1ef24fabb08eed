-- Laws of numbers in digits, as a loop from the first digit goes: what is left, read after what was read, says the whole number.
-- Assumes nothing.
use mathlib.Core.Path.{◌≡◌, refl, sym}
use mathlib.Core.Bool.{Bool, true, false, ◌&&◌, cond}
use mathlib.Core.List.{List, [], ◌∷◌}
use Prim.Native.Nat.{ℕ, ◌+◌, ◌*◌, ◌≤◌, ◌<◌}
use native.Mathlib.Nat.{suc-ne-zero, mul-le-mul_left}
use native.Mathlib.Numerals.{add-one}
use native.Mathlib.Omega.{arith}
use borrow.Author.Tests.{le-leb, lt-leb, lt-ltb, le-ltb, leb-true, ltb-true, ltb-false}
use lib.Dec.{leb, ltb}
use lib.ListN.{length, drop, get_or, drop_of_length-le}
use lib.Seq.{drop-cons}
use Rattle.std.specs.Prelude.{Option, Some, None}
use Rattle.rules.specs.Lists.{every}
use Rattle.rules.proofs.Records.{and_right}
use Rattle.script.specs.Digits.{digit, digit_of, in_base, value_after, number_after, number_of}

-- values only grow
value_grows : (base n : ℕ) (xs : List ℕ) → 0 < base → n ≤ value_after base n xs
unfolding value_after
value_grows base n [] h = omega arith
value_grows base n (x ∷ xs) h =
    let g : n * 1 ≤ n * base = mul-le-mul_left n h in
    let r = value_grows base (n * base + digit x) xs h in
    omega arith

pub and_false : (a : Bool) → a && false ≡ false
and_false true = refl
and_false false = refl

-- what is learnt of a byte by its value
pub digit_value : (x d : ℕ) → digit_of x ≡ Some d → (digit x ≡ d) × (d < 16)
digit_value x d e = go (ltb (digit x) 16) refl e
  where
    go : (t : Bool) → ltb (digit x) 16 ≡ t → cond t (Some (digit x)) None ≡ Some d → (digit x ≡ d) × (d < 16)
    go true k h = let v : digit x ≡ d = cc in (v, let b = ltb-true _ _ k in omega arith)
    go false k h = cc

digit_none : (x : ℕ) → digit_of x ≡ None → 16 ≤ digit x
digit_none x e = go (ltb (digit x) 16) refl e
  where
    go : (t : Bool) → ltb (digit x) 16 ≡ t → cond t (Some (digit x)) None ≡ None → 16 ≤ digit x
    go true k h = cc
    go false k h = ltb-false _ _ k

pub empty : (base most : ℕ) (w : List ℕ) → length w ≡ 0 → number_of base most w ≡ None
unfolding number_of
empty base most [] h = refl
empty base most (x ∷ xs) h = absurd (suc-ne-zero _ h)

pub started : (base most : ℕ) (w : List ℕ) → (length w ≡ 0 → ⊥) → number_of base most w ≡ number_after base most 0 w
unfolding number_of
started base most [] h = absurd (h refl)
started base most (x ∷ xs) h = refl

module _ (base most : ℕ) (w : List ℕ) where
  -- what the digits from i on say after n
  abbrev pub left : ℕ → ℕ → Option ℕ
  left n i = number_after base most n (drop i w)

  -- one digit more
  pub more : (n i d : ℕ) → i < length w → digit_of (get_or w i 0) ≡ Some d → d < base → left n i ≡ left (n * base + d) (i + 1)
  unfolding number_after value_after every
  more n i d h e k = let v = digit_value (get_or w i 0) d e in rw (add-one, drop-cons w i 0 h, sym v.0) (simp (lt-ltb (digit (get_or w i 0)) base (omega arith)))

  -- no digit
  pub no_digit : (n i : ℕ) → i < length w → base ≤ 16 → digit_of (get_or w i 0) ≡ None → left n i ≡ None
  unfolding number_after every
  no_digit n i h b e = let v = digit_none (get_or w i 0) e in rw (drop-cons w i 0 h) (simp (le-ltb (digit (get_or w i 0)) base (omega arith)))

  -- a digit of a larger base
  pub not_in_base : (n i d : ℕ) → i < length w → digit_of (get_or w i 0) ≡ Some d → base ≤ d → left n i ≡ None
  unfolding number_after every
  not_in_base n i d h e k = let v = digit_value (get_or w i 0) d e in rw (drop-cons w i 0 h) (simp (le-ltb (digit (get_or w i 0)) base (omega arith)))

  pub over : (n i : ℕ) → 0 < base → most < n → left n i ≡ None
  unfolding number_after
  over n i b h =
      let g = value_grows base n (drop i w) b in
      simp (lt-leb (value_after base n (drop i w)) most (omega arith), and_false)

  pub ended : (n i : ℕ) → length w ≤ i → n ≤ most → left n i ≡ Some n
  unfolding number_after every value_after
  ended n i h m = rw (drop_of_length-le w {i = i} h) (simp (le-leb _ _ m))

-- a number that a word says is within the bound
pub at_most : (base most : ℕ) (w : List ℕ) (h : ℕ) → number_of base most w ≡ Some h → h ≤ most
unfolding number_of number_after
at_most base most [] h e = cc
at_most base most (x ∷ xs) h e = go (every (in_base base) (x ∷ xs) && leb (value_after base 0 (x ∷ xs)) most) refl e
  where
    go : (t : Bool) → every (in_base base) (x ∷ xs) && leb (value_after base 0 (x ∷ xs)) most ≡ t → cond t (Some (value_after base 0 (x ∷ xs))) None ≡ Some h → h ≤ most
    go true b k =
        let m = leb-true (value_after base 0 (x ∷ xs)) most (and_right (every (in_base base) (x ∷ xs)) _ b) in
        let z : value_after base 0 (x ∷ xs) ≡ h = cc in
        omega arith
    go false b k = cc
