-- Laws of `upto`, as a loop from the front goes.
-- Assumes nothing.
use mathlib.Core.Path.{◌≡◌, refl, sym, ◌∙◌, ap}
use mathlib.Core.List.{List, map, map-append, append-nil}
use Prim.Native.Nat.{ℕ, ◌+◌, ◌≤◌, ◌<◌}
use native.Mathlib.Numerals.{add-one}
use native.Mathlib.Omega.{arith}
use lib.ListN.{length, get_or, take, drop, set, length-append, length-map, length-drop, length-set, drop_of_length-le}
use lib.Seq.{drop-cons, take-suc, get_or_at, set_at, length-take-le, append_snoc, take_all}
use Rattle.lists.specs.Upto.{upto}

module _ {A : Type 0} (f : A → A) (d : A) (xs : List A) where
  front : (i : ℕ) → i ≤ length xs → length (map f (take i xs)) ≡ i
  front i h = length-map (take i xs) f ∙ length-take-le i xs h

  pub none : upto f 0 xs ≡ xs
  unfolding upto
  none = refl

  pub same_length : (i : ℕ) → i ≤ length xs → length (upto f i xs) ≡ length xs
  unfolding upto
  same_length i h = length-append (map f (take i xs)) (drop i xs) ∙ omega (arith, front i h, length-drop i xs)

  -- the next element is still as it was
  pub still : (i : ℕ) → i < length xs → get_or (upto f i xs) i d ≡ get_or xs i d
  unfolding upto
  still i h = rw (drop-cons xs i d h) (get_or_at (map f (take i xs)) _ _ d i (front i (omega arith)))

  pub next : (i : ℕ) → i < length xs → set (upto f i xs) i (f (get_or xs i d)) ≡ upto f (i + 1) xs
  unfolding upto
  next i h =
      let p = map f (take i xs) in
      rw (add-one, drop-cons xs i d h, take-suc xs i d h, map-append f (take i xs))
      (set_at p _ _ (f (get_or xs i d)) i (front i (omega arith)) ∙ sym (append_snoc p _ _))

-- all are changed
pub whole : {A : Type 0} (f : A → A) (xs : List A) (n : ℕ) → length xs ≤ n → upto f n xs ≡ map f xs
unfolding upto
whole f xs n h = rw (take_all n xs h, drop_of_length-le xs {i = n} h) (append-nil (map f xs))

-- a loop that has changed the first i of n elements
pub record Going {A : Type 0} (f : A → A) (n : ℕ) (xs₀ xs : List A) (i : ℕ) : Type 0 where
  pub within : i ≤ n
  pub fits : n ≤ length xs₀
  pub long : length xs ≡ length xs₀
  pub is : xs ≡ upto f i xs₀

module _ {A : Type 0} {f : A → A} {n : ℕ} {xs₀ : List A} where
  pub start : n ≤ length xs₀ → Going f n xs₀ xs₀ 0
  unfolding upto
  start h = record { within = omega arith; fits = h; long = refl; is = refl }

  -- one element more: d is what a read past the end gives
  pub step : {xs : List A} {i : ℕ} (d : A) {v : A} → Going f n xs₀ xs i → i < n → v ≡ f (get_or xs i d) → Going f n xs₀ (set xs i v) (i + 1)
  step {xs} {i} d {v} g h e =
      let m : i < length xs₀ = omega (arith, g.fits) in
      record {
        within = omega arith;
        fits = g.fits;
        long = length-set xs i v ∙ g.long;
        is = ap (set xs i) (e ∙ ap f (ap (λ (l : List A). get_or l i d) g.is ∙ still f d xs₀ i m))
            ∙ ap (λ (l : List A). set l i (f (get_or xs₀ i d))) g.is ∙ next f d xs₀ i m;
      }

  pub stop : {xs : List A} {i : ℕ} → Going f n xs₀ xs i → n ≤ i → xs ≡ upto f n xs₀
  stop {xs} {i} g h =
      let e : i ≡ n = omega (arith, g.within) in
      rw e at g.is
