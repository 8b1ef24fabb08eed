-- A test of every element: by a fold, which has no way out, by `all`, and by a loop without a way out. Assumes nothing.
use mathlib.Core.Path.{◌≡◌, refl, sym, ap, ◌∙◌}
use mathlib.Core.Bool.{Bool, true, false, ◌&&◌}
use mathlib.Core.List.{List, [], ◌∷◌}
use Prim.Native.Nat.{ℕ, zero, suc, ◌+◌, ◌≤◌, ◌<◌, zero-le}
use native.Mathlib.Nat.{not-suc-le-zero, le_of_suc-le-suc}
use native.Mathlib.Omega.{arith}
use lib.ListN.{length, get_or, drop}
use Rattle.std.specs.Bool.{MatchBool}
use Rattle.std.specs.List.{fold, AllWithin, HoldsAt}
use Rattle.rules.specs.Lists.{every}
use Rattle.lists.proofs.Lists.{and_true, and_false, and_assoc, every_next, every_end}

module _ {A : Type 0} (f : A → Bool) where
  every_from : (ok : Bool) (xs : List A) → fold (λ t x. t && f x) ok xs ≡ ok && every f xs
  unfolding every
  every_from ok [] = sym (and_true ok)
  every_from ok (x ∷ xs) = every_from (ok && f x) xs ∙ and_assoc ok (f x) (every f xs)

  pub every_fold : (xs : List A) → fold (λ t x. t && f x) true xs ≡ every f xs
  every_fold xs = every_from true xs

  each : (xs : List A) → ((k : ℕ) (d : A) → k < length xs → f (get_or xs k d) ≡ true) → every f xs ≡ true
  unfolding every
  each [] h = refl
  each (x ∷ xs) h = rw (h 0 x (omega arith)) (each xs (λ k d l. h (suc k) d (omega arith)))

  one_not : (xs : List A) (k : ℕ) → k < length xs → ((d : A) → f (get_or xs k d) ≡ false) → every f xs ≡ false
  unfolding every
  one_not [] k l h = absurd (not-suc-le-zero l)
  one_not (x ∷ xs) zero l h = rw (h x)
  one_not (x ∷ xs) (suc k) l h = rw (one_not xs k (le_of_suc-le-suc l) h) (and_false (f x))

  -- what `all` answers
  pub every_told : (xs : List A) (r : Bool) → MatchBool r (AllWithin (λ x. f x ≡ true) xs 0 (length xs)) ((k : ℕ) × (k < length xs) × HoldsAt (λ x. f x ≡ false) xs k) → r ≡ every f xs
  every_told xs true h = sym (each xs (λ k d l. h k d zero-le l))
  every_told xs false h = sym (one_not xs h.0 h.1 h.2)

-- a loop that tests every element from the front: what it has found in the first i, and the test of what is left, are the test of the whole
pub record Tested {A : Type 0} (f : A → Bool) (xs : List A) (ok : Bool) (i : ℕ) : Type 0 where
  pub within : i ≤ length xs
  pub is : every f xs ≡ ok && every f (drop i xs)

module _ {A : Type 0} {f : A → Bool} {xs : List A} where
  pub start : Tested f xs true 0
  start = record { within = omega arith; is = refl }

  -- one element more: d is what a read past the end gives
  pub step : {ok t : Bool} {i : ℕ} (d : A) → Tested f xs ok i → i < length xs → t ≡ f (get_or xs i d) → Tested f xs (ok && t) (i + 1)
  step {ok} {t} {i} d g h e = record {
    within = omega arith;
    is = g.is ∙ ap (λ (b : Bool). ok && b) (every_next f xs i d h) ∙ sym (and_assoc ok (f (get_or xs i d)) (every f (drop (i + 1) xs))) ∙ ap (λ (b : Bool). (ok && b) && every f (drop (i + 1) xs)) (sym e);
  }

  pub stop : {ok : Bool} {i : ℕ} → Tested f xs ok i → length xs ≤ i → ok ≡ every f xs
  stop {ok} {i} g h = sym (g.is ∙ ap (λ (b : Bool). ok && b) (every_end f xs i h) ∙ and_true ok)
