-- Records that come and go by id, in either order. Assumes nothing.
use mathlib.Core.Path.{◌≡◌, refl, sym, ap, subst, ◌∙◌}
use mathlib.Core.Bool.{Bool, true, false, not, ◌||◌, cond, true≢false}
use mathlib.Core.List.{List, [], ◌∷◌}
use Prim.Native.Nat.{ℕ, ◌<◌}
use lib.Dec.{leb}
use lib.ListN.{length}
use borrow.Author.Tests.{lt-leb}
use Rattle.rules.specs.Lists.{any, keep, insert}
use Rattle.rules.specs.Ids.{Id, same, below, dropped, placed}
use Rattle.rules.specs.Board.{Pending, pending_most}
use Rattle.rules.specs.Estimator.{is_pending, admit}
use Rattle.rules.proofs.All.{All, none, more, all_keep}
use Rattle.rules.proofs.Ids.{same_eq, same_refl, below_trans, below_asym, below_other, Up, end, step, all_above, dropped_absent}
use Rattle.rules.proofs.Well.{newcomer}

-- two tests, in either order
pub keep_swap : {A : Type 0} (p q : A → Bool) (xs : List A) → keep p (keep q xs) ≡ keep q (keep p xs)
unfolding keep
keep_swap p q [] = refl
keep_swap {A} p q (x ∷ xs) = go (p x) (q x) refl refl (keep_swap p q xs)
  where
    go : (s t : Bool) → p x ≡ s → q x ≡ t → keep p (keep q xs) ≡ keep q (keep p xs) → keep p (cond t (x ∷ keep q xs) (keep q xs)) ≡ keep q (cond s (x ∷ keep p xs) (keep p xs))
    go true true e f h = rw (e, f, h)
    go true false e f h = rw (f, h)
    go false true e f h = rw (e, h)
    go false false e f h = h

module _ {A : Type 0} (id : A → Id) where
  -- r put in where ids rise
  abbrev pub ordered : A → List A → List A
  ordered r xs = insert (λ x y. below (id x) (id y)) r xs

  first_in : (r : A) {xs : List A} → All (λ q. below (id r) (id q) ≡ true) xs → ordered r xs ≡ r ∷ xs
  unfolding insert
  first_in r none = refl
  first_in r (more h hs) = rw h

  -- a record put in among records that rise, some of which go
  pub keep_insert : (p : A → Bool) (r : A) {xs : List A} → Up id xs → keep p (ordered r xs) ≡ cond (p r) (ordered r (keep p xs)) (keep p xs)
  unfolding keep insert
  keep_insert p r end = refl
  keep_insert p r (step {r = x} {rs = xs} a u) = go (below (id r) (id x)) (p x) refl refl (keep_insert p r u)
    where
      go : (t s : Bool) → below (id r) (id x) ≡ t → p x ≡ s → keep p (ordered r xs) ≡ cond (p r) (ordered r (keep p xs)) (keep p xs)
          → keep p (cond t (r ∷ x ∷ xs) (x ∷ ordered r xs)) ≡ cond (p r) (ordered r (cond s (x ∷ keep p xs) (keep p xs))) (cond s (x ∷ keep p xs) (keep p xs))
      go true true e f h = rw (f, e)
      go true false e f h = rw (f, first_in r (all_keep p (all_above id r x xs e a)))
      go false true e f h = rw (f, e, h) (out (p r))
        where
          out : (b : Bool) → x ∷ cond b (ordered r (keep p xs)) (keep p xs) ≡ cond b (x ∷ ordered r (keep p xs)) (x ∷ keep p xs)
          out true = refl
          out false = refl
      go false false e f h = rw (f, h)

  -- ---- one goes, the other comes or goes

  pub dropped_swap : (i j : Id) (rs : List A) → dropped id i (dropped id j rs) ≡ dropped id j (dropped id i rs)
  unfolding dropped
  dropped_swap i j rs = keep_swap (λ r. not (same (id r) i)) (λ r. not (same (id r) j)) rs

  -- another's record comes to stand where it would have stood
  pub dropped_ordered : (i : Id) (r : A) {rs : List A} → same (id r) i ≡ false → Up id rs → dropped id i (ordered r rs) ≡ ordered r (dropped id i rs)
  unfolding dropped
  dropped_ordered i r d u = keep_insert (λ q. not (same (id q) i)) r u ∙ rw d

  -- its own, that came and goes again
  pub ordered_gone : (r : A) {rs : List A} → any (λ q. same (id q) (id r)) rs ≡ false → Up id rs → dropped id (id r) (ordered r rs) ≡ rs
  unfolding dropped
  ordered_gone r {rs} n u = keep_insert (λ q. not (same (id q) (id r))) r u ∙ rw (same_refl (id r)) (dropped_absent id (id r) rs n)

  -- whoever goes or comes, another's record is there or not as before
  pub any_dropped : (i j : Id) (rs : List A) → same i j ≡ false → any (λ r. same (id r) j) (dropped id i rs) ≡ any (λ r. same (id r) j) rs
  unfolding dropped any keep
  any_dropped i j [] d = refl
  any_dropped i j (r ∷ rs) d = go (same (id r) i) refl (any_dropped i j rs d)
    where
      go : (t : Bool) → same (id r) i ≡ t → any (λ r. same (id r) j) (keep (λ r. not (same (id r) i)) rs) ≡ any (λ r. same (id r) j) rs
          → any (λ r. same (id r) j) (cond (not t) (r ∷ keep (λ r. not (same (id r) i)) rs) (keep (λ r. not (same (id r) i)) rs)) ≡ (same (id r) j || any (λ r. same (id r) j) rs)
      go true e h =
          let n : same (id r) j ≡ false = subst (λ (x : Id). same x j ≡ false) (sym (same_eq (id r) i e)) d in
          rw n h
      go false e h = ap (λ (b : Bool). same (id r) j || b) h

  pub any_ordered : (x : A) (j : Id) (rs : List A) → same (id x) j ≡ false → any (λ r. same (id r) j) (ordered x rs) ≡ any (λ r. same (id r) j) rs
  unfolding insert any
  any_ordered x j [] d = rw d
  any_ordered x j (r ∷ rs) d = go (below (id x) (id r)) (any_ordered x j rs d)
    where
      go : (t : Bool) → any (λ r. same (id r) j) (ordered x rs) ≡ any (λ r. same (id r) j) rs
          → any (λ r. same (id r) j) (cond t (x ∷ r ∷ rs) (r ∷ ordered x rs)) ≡ (same (id r) j || any (λ r. same (id r) j) rs)
      go true h = rw d
      go false h = ap (λ (b : Bool). same (id r) j || b) h

  -- ---- two that come

  -- x comes to stand before y
  below_both : (x y : A) (rs : List A) → below (id x) (id y) ≡ true → ordered x (ordered y rs) ≡ ordered y (ordered x rs)
  unfolding insert
  below_both x y [] e = rw (e, below_asym (id x) (id y) e)
  below_both x y (z ∷ zs) e = go (below (id x) (id z)) (below (id y) (id z)) refl refl (below_both x y zs e)
    where
      go : (p q : Bool) → below (id x) (id z) ≡ p → below (id y) (id z) ≡ q → ordered x (ordered y zs) ≡ ordered y (ordered x zs)
          → ordered x (cond q (y ∷ z ∷ zs) (z ∷ ordered y zs)) ≡ ordered y (cond p (x ∷ z ∷ zs) (z ∷ ordered x zs))
      go true true g h i = rw (e, below_asym (id x) (id y) e, h)
      go false true g h i = absurd (true≢false (sym (below_trans (id x) (id y) (id z) e h) ∙ g))
      go true false g h i = rw (below_asym (id x) (id y) e, g, h)
      go false false g h i = rw (g, h) (ap (λ (l : List A). z ∷ l) i)

  pub ordered_swap : (x y : A) (rs : List A) → same (id x) (id y) ≡ false → ordered x (ordered y rs) ≡ ordered y (ordered x rs)
  ordered_swap x y rs d = go (below (id y) (id x)) refl
    where
      go : (t : Bool) → below (id y) (id x) ≡ t → ordered x (ordered y rs) ≡ ordered y (ordered x rs)
      go true e = sym (below_both y x rs e)
      go false e = below_both x y rs (below_other (id x) (id y) d e)

-- ---- an entry

-- no record has the id, and one of so many places is free
pub record Free (places : ℕ) (i : Id) (rs : List Pending) : Type 0 where
  pub absent : is_pending i rs ≡ false
  pub place : length rs < places

-- a record that is free to come is put in
pub admit_free : (i : Id) (rate e : ℕ) (rs : List Pending) → Free pending_most i rs → admit i rate e rs ≡ ordered (λ r. r.id) (newcomer i rate e) rs
unfolding admit placed is_pending
admit_free i rate e rs f =
    let full : leb pending_most (length rs) ≡ false = lt-leb pending_most (length rs) f.place in
    rw (f.absent, full) (ap (ordered (λ r. r.id) (newcomer i rate e)) (dropped_absent (λ r. r.id) i rs f.absent))
