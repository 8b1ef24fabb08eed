-- The records that marks by places pick: of the marks of a test those that pass, and one more or none with each place. Assumes nothing.
use mathlib.Core.Path.{◌≡◌, refl, ap}
use mathlib.Core.Bool.{Bool, true, false, not, cond}
use mathlib.Core.List.{List, [], ◌∷◌, ◌++◌, map}
use Prim.Native.Nat.{ℕ, zero, suc, ◌≤◌, ◌<◌}
use native.Mathlib.Nat.{not-suc-le-zero, le_of_suc-le-suc}
use lib.Dec.{eqb}
use lib.ListN.{length, get_or, take}
use Rattle.rules.specs.Lists.{bit, keep}
use Rattle.rules.proofs.All.{All, none, more}
use Rattle.batch.specs.Picked.{picked}

module _ {A : Type 0} where
  -- of the marks of a test, 1 picks those that pass and 0 the others
  pub picked_keep : (p : A → Bool) (rs : List A) → picked 1 (map (λ r. bit (p r)) rs) rs ≡ keep p rs
  unfolding picked keep
  picked_keep p [] = refl
  picked_keep p (r ∷ rs) = go (p r) (picked_keep p rs)
    where
      go : (t : Bool) → picked 1 (map (λ r. bit (p r)) rs) rs ≡ keep p rs → cond (eqb (bit t) 1) (r ∷ picked 1 (map (λ r. bit (p r)) rs) rs) (picked 1 (map (λ r. bit (p r)) rs) rs) ≡ cond t (r ∷ keep p rs) (keep p rs)
      go true e = ap (λ (l : List A). r ∷ l) e
      go false e = e

  pub picked_others : (p : A → Bool) (rs : List A) → picked 0 (map (λ r. bit (p r)) rs) rs ≡ keep (λ r. not (p r)) rs
  unfolding picked keep
  picked_others p [] = refl
  picked_others p (r ∷ rs) = go (p r) (picked_others p rs)
    where
      go : (t : Bool) → picked 0 (map (λ r. bit (p r)) rs) rs ≡ keep (λ r. not (p r)) rs
          → cond (eqb (bit t) 0) (r ∷ picked 0 (map (λ r. bit (p r)) rs) rs) (picked 0 (map (λ r. bit (p r)) rs) rs) ≡ cond (not t) (r ∷ keep (λ r. not (p r)) rs) (keep (λ r. not (p r)) rs)
      go true e = e
      go false e = ap (λ (l : List A). r ∷ l) e

  pub all_picked : {Q : A → Type 0} (w : ℕ) (ms : List ℕ) {rs : List A} → All Q rs → All Q (picked w ms rs)
  unfolding picked
  all_picked w [] h = none
  all_picked w (m ∷ ms) none = none
  all_picked {Q} w (m ∷ ms) (more {a = r} {l = rs} h hs) = go (eqb m w) (all_picked w ms hs)
    where
      go : (t : Bool) → All Q (picked w ms rs) → All Q (cond t (r ∷ picked w ms rs) (picked w ms rs))
      go true l = more h l
      go false l = l

  -- marks behind the last record pick nothing
  pub picked_take : (w : ℕ) (n : ℕ) (ms : List ℕ) (rs : List A) → length rs ≤ n → picked w (take n ms) rs ≡ picked w ms rs
  unfolding picked
  picked_take w zero [] rs h = refl
  picked_take w zero (m ∷ ms) [] h = refl
  picked_take w zero (m ∷ ms) (r ∷ rs) h = absurd (not-suc-le-zero h)
  picked_take w (suc n) [] rs h = refl
  picked_take w (suc n) (m ∷ ms) [] h = refl
  picked_take w (suc n) (m ∷ ms) (r ∷ rs) h = ap (λ (l : List A). cond (eqb m w) (r ∷ l) l) (picked_take w n ms rs (le_of_suc-le-suc h))

  pub picked_back : (w : ℕ) (j : ℕ) (d : A) (ms : List ℕ) (rs : List A) → j < length ms → j < length rs
      → picked w (take (suc j) ms) (take (suc j) rs) ≡ picked w (take j ms) (take j rs) ++ cond (eqb (get_or ms j 0) w) (get_or rs j d ∷ []) []
  unfolding picked
  picked_back w j d [] rs g h = absurd (not-suc-le-zero g)
  picked_back w j d (m ∷ ms) [] g h = absurd (not-suc-le-zero h)
  picked_back w zero d (m ∷ ms) (r ∷ rs) g h = refl
  picked_back w (suc j) d (m ∷ ms) (r ∷ rs) g h = go (eqb m w) (picked_back w j d ms rs (le_of_suc-le-suc g) (le_of_suc-le-suc h))
    where
      go : (t : Bool) → picked w (take (suc j) ms) (take (suc j) rs) ≡ picked w (take j ms) (take j rs) ++ cond (eqb (get_or ms j 0) w) (get_or rs j d ∷ []) []
          → cond t (r ∷ picked w (take (suc j) ms) (take (suc j) rs)) (picked w (take (suc j) ms) (take (suc j) rs)) ≡ cond t (r ∷ picked w (take j ms) (take j rs)) (picked w (take j ms) (take j rs)) ++ cond (eqb (get_or ms j 0) w) (get_or rs j d ∷ []) []
      go true e = ap (λ (l : List A). r ∷ l) e
      go false e = e

-- picked and changed, or changed and picked
pub map_picked : {A C : Type 0} (w : ℕ) (f : A → C) (ms : List ℕ) (rs : List A) → map f (picked w ms rs) ≡ picked w ms (map f rs)
unfolding picked
map_picked w f [] rs = refl
map_picked w f (m ∷ ms) [] = refl
map_picked {C} w f (m ∷ ms) (r ∷ rs) = go (eqb m w) (map_picked w f ms rs)
  where
    go : (t : Bool) → map f (picked w ms rs) ≡ picked w ms (map f rs) → map f (cond t (r ∷ picked w ms rs) (picked w ms rs)) ≡ cond t (f r ∷ picked w ms (map f rs)) (picked w ms (map f rs))
    go true e = ap (λ (l : List C). f r ∷ l) e
    go false e = e
