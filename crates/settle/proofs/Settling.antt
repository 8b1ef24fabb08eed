-- Records placed one after the other: what stood in the table before does not show, if each of its ids is among those placed. For a record that will be replaced
-- may go first. Assumes nothing.
use mathlib.Core.Path.{◌≡◌, refl, sym, ap, ◌∙◌}
use mathlib.Core.Bool.{Bool, true, false, not, cond, ◌||◌}
use mathlib.Core.List.{List, [], ◌∷◌}
use Rattle.rules.specs.Lists.{any, keep}
use Rattle.rules.specs.Ids.{Id, same, dropped, placed}
use Rattle.rules.proofs.All.{All, none, more}
use Rattle.rules.proofs.Ids.{Up, up_keep, up_placed}
use Rattle.rules.proofs.Placing.{keep_swap, keep_insert}
use Rattle.format.specs.File.{settled}

module _ {A : Type 0} where
  -- ---- keep, twice

  keep_twice : (p : A → Bool) (xs : List A) → keep p (keep p xs) ≡ keep p xs
  unfolding keep
  keep_twice p [] = refl
  keep_twice p (x ∷ xs) = go (p x) refl (keep_twice p xs)
    where
      go : (t : Bool) → p x ≡ t → keep p (keep p xs) ≡ keep p xs → keep p (cond t (x ∷ keep p xs) (keep p xs)) ≡ cond t (x ∷ keep p xs) (keep p xs)
      go true e h = rw e (ap (λ (l : List A). x ∷ l) h)
      go false e h = h

  keep_both : (p q : A → Bool) (xs : List A) → keep (λ x. not (q x || p x)) xs ≡ keep (λ x. not (p x)) (keep (λ x. not (q x)) xs)
  unfolding keep
  keep_both p q [] = refl
  keep_both p q (x ∷ xs) = go (q x) (keep_both p q xs)
    where
      go : (t : Bool) → keep (λ y. not (q y || p y)) xs ≡ keep (λ y. not (p y)) (keep (λ y. not (q y)) xs)
          → cond (not (t || p x)) (x ∷ keep (λ y. not (q y || p y)) xs) (keep (λ y. not (q y || p y)) xs) ≡ keep (λ y. not (p y)) (cond (not t) (x ∷ keep (λ y. not (q y)) xs) (keep (λ y. not (q y)) xs))
      go true h = h
      go false h = rw h

module _ {A : Type 0} (id : A → Id) where
  -- ---- records that are not placed again

  unfoldable left : List A → List A → List A
  left rs table = keep (λ t. not (any (λ r. same (id t) (id r)) rs)) table

  left_up : (rs : List A) {table : List A} → Up id table → Up id (left rs table)
  unfolding left
  left_up rs u = up_keep id (λ t. not (any (λ r. same (id t) (id r)) rs)) u

  left_all : (table : List A) → left [] table ≡ table
  unfolding left keep any
  left_all [] = refl
  left_all (t ∷ table) = ap (λ (l : List A). t ∷ l) (left_all table)

  -- one that will be replaced may go first
  left_placed : (r : A) (rs : List A) {table : List A} → Up id table → left rs (placed id r table) ≡ left rs (placed id r (left (r ∷ rs) table))
  unfolding left placed dropped any
  left_placed r rs {table} u =
      let p : A → Bool = λ t. not (any (λ q. same (id t) (id q)) rs) in
      let o : A → Bool = λ t. not (same (id t) (id r)) in
      let d : List A = keep o table in
      let v : Up id d = up_keep id o u in
      let e : keep (λ t. not (same (id t) (id r) || any (λ q. same (id t) (id q)) rs)) table ≡ keep p d = keep_both (λ t. any (λ q. same (id t) (id q)) rs) (λ t. same (id t) (id r)) table in
      let f : keep o (keep p d) ≡ keep p d = keep_swap o p d ∙ ap (keep p) (keep_twice o table) in
      keep_insert id p r v ∙ sym (rw (e, f) (keep_insert id p r (up_keep id p v) ∙ rw (keep_twice p d)))

  settled_left : (rs : List A) {table : List A} → Up id table → settled id table rs ≡ settled id (left rs table) rs
  unfolding settled
  settled_left [] {table} u = sym (left_all table)
  settled_left (r ∷ rs) {table} u =
      settled_left rs (up_placed id r u)
      ∙ ap (λ (l : List A). settled id l rs) (left_placed r rs u)
      ∙ sym (settled_left rs (up_placed id r (left_up (r ∷ rs) u)))

  none_left : (rs : List A) {table : List A} → All (λ t. any (λ r. same (id t) (id r)) rs ≡ true) table → left rs table ≡ []
  unfolding left keep
  none_left rs none = refl
  none_left rs (more h hs) = rw h (none_left rs hs)

  pub settled_over : (rs : List A) {table : List A} → Up id table → All (λ t. any (λ r. same (id t) (id r)) rs ≡ true) table → settled id table rs ≡ settled id [] rs
  settled_over rs u h = settled_left rs u ∙ ap (λ (l : List A). settled id l rs) (none_left rs h)
