-- Laws of `keep` and `any`: a keep of a keep tests both, and what is put in or changed passes as before. Assumes nothing.
use mathlib.Core.Path.{◌≡◌, refl, ap, ◌∙◌, fun_ext}
use mathlib.Core.Bool.{Bool, true, false, ◌&&◌, ◌||◌, cond, true≢false, and-false, and_comm}
use mathlib.Core.List.{List, [], ◌∷◌, map}
use Rattle.rules.specs.Lists.{any, keep, insert}
use Rattle.rules.specs.Ids.{Id, same}
use Rattle.rules.proofs.Ids.{same_eq}
use Rattle.lists.proofs.Counting.{any_keep}

module _ {A : Type 0} where
  pub any_ext : (p q : A → Bool) → ((x : A) → p x ≡ q x) → (xs : List A) → any p xs ≡ any q xs
  any_ext p q h xs = ap (λ (t : A → Bool). any t xs) (fun_ext h)

  pub any_none : (xs : List A) → any (λ x. false) xs ≡ false
  unfolding any
  any_none [] = refl
  any_none (x ∷ xs) = any_none xs

  -- a test that has nothing to do with the element
  pub any_and : (p : A → Bool) (t : Bool) (xs : List A) → any (λ x. p x && t) xs ≡ (any p xs && t)
  unfolding any
  any_and p true [] = refl
  any_and p false [] = refl
  any_and p t (x ∷ xs) = go (p x) t (any_and p t xs)
    where
      go : (a t : Bool) → any (λ x. p x && t) xs ≡ (any p xs && t) → ((a && t) || any (λ x. p x && t) xs) ≡ ((a || any p xs) && t)
      go true true h = refl
      go true false h = h ∙ and-false (any p xs)
      go false t h = h

  -- what one is put in
  pub any_insert : (p : A → Bool) (lt : A → A → Bool) (x : A) (ys : List A) → any p (insert lt x ys) ≡ (p x || any p ys)
  unfolding any insert
  any_insert p lt x [] = refl
  any_insert p lt x (y ∷ ys) = go (lt x y) (any_insert p lt x ys)
    where
      swap : (a b c : Bool) → (a || (b || c)) ≡ (b || (a || c))
      swap true true c = refl
      swap true false c = refl
      swap false b c = refl

      go : (t : Bool) → any p (insert lt x ys) ≡ (p x || any p ys) → any p (cond t (x ∷ y ∷ ys) (y ∷ insert lt x ys)) ≡ (p x || (p y || any p ys))
      go true h = refl
      go false h = rw h (swap (p y) (p x) (any p ys))

  -- where none passes, none is kept
  pub keep_absent : (p : A → Bool) (xs : List A) → any p xs ≡ false → keep p xs ≡ []
  unfolding any keep
  keep_absent p [] e = refl
  keep_absent p (x ∷ xs) e = go (p x) e (keep_absent p xs)
    where
      go : (t : Bool) → (t || any p xs) ≡ false → (any p xs ≡ false → keep p xs ≡ []) → cond t (x ∷ keep p xs) (keep p xs) ≡ []
      go true e f = absurd (true≢false e)
      go false e f = f e

  pub keep_keep : (p q : A → Bool) (xs : List A) → keep p (keep q xs) ≡ keep (λ x. q x && p x) xs
  unfolding keep
  keep_keep p q [] = refl
  keep_keep p q (x ∷ xs) = go (q x) (keep_keep p q xs)
    where
      go : (t : Bool) → keep p (keep q xs) ≡ keep (λ x. q x && p x) xs → keep p (cond t (x ∷ keep q xs) (keep q xs)) ≡ cond (t && p x) (x ∷ keep (λ x. q x && p x) xs) (keep (λ x. q x && p x) xs)
      go true h = rw h
      go false h = h

pub any_map : {A B : Type 0} (f : A → B) (p : B → Bool) (xs : List A) → any p (map f xs) ≡ any (λ x. p (f x)) xs
unfolding any
any_map f p [] = refl
any_map f p (x ∷ xs) = ap (λ (t : Bool). p (f x) || t) (any_map f p xs)

-- ---- a test of ids

module _ {A : Type 0} (id : A → Id) where
  -- those kept by a test of ids have the record of j, if there is one, exactly if j passes
  pub has_kept : (mark : Id → Bool) (j : Id) (rs : List A) → any (λ r. same (id r) j) (keep (λ r. mark (id r)) rs) ≡ (mark j && any (λ r. same (id r) j) rs)
  has_kept mark j rs =
      any_keep (λ r. same (id r) j) (λ r. mark (id r)) rs
      ∙ any_ext (λ r. same (id r) j && mark (id r)) (λ r. same (id r) j && mark j) (λ r. one (id r) (same (id r) j) refl) rs
      ∙ any_and (λ r. same (id r) j) (mark j) rs
      ∙ and_comm (any (λ r. same (id r) j) rs) (mark j)
    where
      one : (i : Id) (t : Bool) → same i j ≡ t → (t && mark i) ≡ (t && mark j)
      one i true e = ap mark (same_eq i j e)
      one i false e = refl
