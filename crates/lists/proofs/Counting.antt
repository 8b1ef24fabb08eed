-- How many of a list pass a test: what every change of a list does to that. Assumes nothing.
use mathlib.Core.Path.{◌≡◌, refl, sym, ap, ap₂, ◌∙◌}
use mathlib.Core.Bool.{Bool, true, false, not, ◌&&◌, ◌||◌, cond, true≢false}
use mathlib.Core.List.{List, [], ◌∷◌, map}
use Prim.Native.Nat.{ℕ, suc, ◌+◌, ◌≤◌, zero-le}
use native.Mathlib.Nat.{zero-add}
use native.Mathlib.Omega.{arith}
use lib.ListN.{length}
use Rattle.rules.specs.Lists.{bit, count, any, keep, insert}
use Rattle.rules.proofs.All.{All, none as no_more, more}

bit_split : (a b : Bool) → bit b ≡ bit (a && b) + bit (not a && b)
bit_split true true = refl
bit_split true false = refl
bit_split false true = refl
bit_split false false = refl

bit_and_le : (a b : Bool) → bit (a && b) ≤ bit a
bit_and_le true true = omega arith
bit_and_le true false = omega arith
bit_and_le false b = omega arith

module _ {A : Type 0} where
  all_of : {P : A → Type 0} → ((x : A) → P x) → (xs : List A) → All P xs
  all_of f [] = no_more
  all_of f (x ∷ xs) = more (f x) (all_of f xs)

  pub count_all : (p q : A → Bool) {xs : List A} → All (λ x. p x ≡ q x) xs → count p xs ≡ count q xs
  unfolding count
  count_all p q no_more = refl
  count_all p q (more h a) = ap₂ (λ (b : Bool) (n : ℕ). bit b + n) h (count_all p q a)

  pub count_ext : (p q : A → Bool) → ((x : A) → p x ≡ q x) → (xs : List A) → count p xs ≡ count q xs
  count_ext p q f xs = count_all p q (all_of f xs)

  -- a test that is one of two others, never both
  pub count_two : (r p q : A → Bool) {xs : List A} → All (λ x. bit (r x) ≡ bit (p x) + bit (q x)) xs → count r xs ≡ count p xs + count q xs
  unfolding count
  count_two r p q no_more = refl
  count_two r p q (more h a) = omega (arith, h, count_two r p q a)

  pub count_map : {B : Type 0} (p : A → Bool) (f : B → A) (xs : List B) → count p (map f xs) ≡ count (λ x. p (f x)) xs
  unfolding count
  count_map p f [] = refl
  count_map p f (x ∷ xs) = omega (arith, count_map p f xs)

  count_cond : (p : A → Bool) (b : Bool) (x : A) (ys : List A) → count p (cond b (x ∷ ys) ys) ≡ bit (b && p x) + count p ys
  unfolding count
  count_cond p true x ys = refl
  count_cond p false x ys = sym (zero-add (count p ys))

  pub count_keep : (p q : A → Bool) (xs : List A) → count p (keep q xs) ≡ count (λ x. q x && p x) xs
  unfolding keep count
  count_keep p q [] = refl
  count_keep p q (x ∷ xs) = omega (arith, count_cond p (q x) x (keep q xs), count_keep p q xs)

  pub count_split : (p q : A → Bool) (xs : List A) → count p xs ≡ count (λ x. q x && p x) xs + count (λ x. not (q x) && p x) xs
  unfolding count
  count_split p q [] = refl
  count_split p q (x ∷ xs) = omega (arith, bit_split (q x) (p x), count_split p q xs)

  -- a test that nothing passes but what passes another
  pub count_le : (p q : A → Bool) → ((x : A) → bit (p x) ≤ bit (q x)) → (xs : List A) → count p xs ≤ count q xs
  unfolding count
  count_le p q f [] = zero-le
  count_le p q f (x ∷ xs) = omega (arith, f x, count_le p q f xs)

  pub count_and_le : (p q : A → Bool) (xs : List A) → count (λ x. q x && p x) xs ≤ count q xs
  count_and_le p q xs = count_le (λ x. q x && p x) q (λ x. bit_and_le (q x) (p x)) xs

  pub count_insert : (p : A → Bool) (lt : A → A → Bool) (x : A) (ys : List A) → count p (insert lt x ys) ≡ bit (p x) + count p ys
  unfolding count insert
  count_insert p lt x [] = refl
  count_insert p lt x (y ∷ ys) = go (lt x y) (count_insert p lt x ys)
    where
      go : (b : Bool) → count p (insert lt x ys) ≡ bit (p x) + count p ys → count p (cond b (x ∷ y ∷ ys) (y ∷ insert lt x ys)) ≡ bit (p x) + (bit (p y) + count p ys)
      go true h = refl
      go false h = omega arith

  pub count_length : (xs : List A) → count (λ x. true) xs ≡ length xs
  unfolding count
  count_length [] = refl
  count_length (x ∷ xs) = omega (arith, count_length xs)

  pub count_false : (xs : List A) → count (λ x. false) xs ≡ 0
  unfolding count
  count_false [] = refl
  count_false (x ∷ xs) = omega (arith, count_false xs)

  -- ---- those that a test keeps

  pub length_kept : (p : A → Bool) (xs : List A) → length (keep p xs) ≡ count p xs
  unfolding count keep
  length_kept p [] = refl
  length_kept p (x ∷ xs) = go (p x) (length_kept p xs)
    where
      go : (t : Bool) → length (keep p xs) ≡ count p xs → length (cond t (x ∷ keep p xs) (keep p xs)) ≡ bit t + count p xs
      go true h = omega arith
      go false h = omega arith

  -- those that a test drops, and those that it leaves
  pub length_left : (p : A → Bool) (xs : List A) → length (keep (λ x. not (p x)) xs) + count p xs ≡ length xs
  unfolding count keep
  length_left p [] = refl
  length_left p (x ∷ xs) = go (p x) (length_left p xs)
    where
      go : (t : Bool) → length (keep (λ x. not (p x)) xs) + count p xs ≡ length xs
          → length (cond (not t) (x ∷ keep (λ x. not (p x)) xs) (keep (λ x. not (p x)) xs)) + (bit t + count p xs) ≡ suc (length xs)
      go true h = omega arith
      go false h = omega arith

  -- who passes a test passes a weaker one
  pub keep_implied : (p q : A → Bool) → ((x : A) → q x ≡ true → p x ≡ true) → (xs : List A) → keep q (keep p xs) ≡ keep q xs
  unfolding keep
  keep_implied p q h [] = refl
  keep_implied p q h (x ∷ xs) = go (p x) (q x) refl refl (keep_implied p q h xs)
    where
      go : (s t : Bool) → p x ≡ s → q x ≡ t → keep q (keep p xs) ≡ keep q xs → keep q (cond s (x ∷ keep p xs) (keep p xs)) ≡ cond t (x ∷ keep q xs) (keep q xs)
      go true t e f i = rw (f, i)
      go false true e f i = absurd (true≢false (sym (h x f) ∙ e))
      go false false e f i = i

  pub keep_all : (xs : List A) → keep (λ x. true) xs ≡ xs
  unfolding keep
  keep_all [] = refl
  keep_all (x ∷ xs) = ap (λ (l : List A). x ∷ l) (keep_all xs)

  pub any_keep : (p q : A → Bool) (xs : List A) → any p (keep q xs) ≡ any (λ x. p x && q x) xs
  unfolding any keep
  any_keep p q [] = refl
  any_keep p q (x ∷ xs) = go (p x) (q x) refl (any_keep p q xs)
    where
      go : (s t : Bool) → p x ≡ s → any p (keep q xs) ≡ any (λ x. p x && q x) xs → any p (cond t (x ∷ keep q xs) (keep q xs)) ≡ ((s && t) || any (λ x. p x && q x) xs)
      go true true e i = rw e
      go true false e i = i
      go false true e i = rw e i
      go false false e i = i
