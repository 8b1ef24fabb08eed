-- A table that holds the records of a file in another order, each id once: placing them one after the other comes to that table. For placing a record where it
-- stands changes nothing. Assumes nothing.
use mathlib.Core.Path.{◌≡◌, refl, sym, ap, subst, ◌∙◌}
use mathlib.Core.Bool.{Bool, true, false, ◌||◌, true≢false}
use mathlib.Core.List.{List, [], ◌∷◌, map}
use Prim.Native.Nat.{ℕ, ◌+◌}
use native.Mathlib.Nat.{zero-add}
use native.Mathlib.Omega.{arith}
use lib.Dec.{ltb}
use borrow.Author.Tests.{lt-ltb}
use Rattle.rules.specs.Lists.{bit, count, any, keep, insert}
use Rattle.rules.specs.Ids.{Id, same, below, rising, dropped, placed}
use Rattle.rules.specs.Records.{id_of}
use Rattle.rules.proofs.All.{All, none, more}
use Rattle.rules.proofs.Ids.{Up, end, step, same_eq, same_refl, same_sym, below_apart, below_asym, up_of, dropped_absent}
use Rattle.format.specs.File.{settled}
use Rattle.format.proofs.Back.{all_imply}
use Rattle.sort.specs.Order.{Shuffled}
use Rattle.settle.proofs.Settling.{settled_over}

-- ---- a record placed where it stands

data Stands {A : Type 0} (r : A) : List A → Type 0 where
  here : {rs : List A} → Stands r (r ∷ rs)
  later : {q : A} {rs : List A} → Stands r rs → Stands r (q ∷ rs)

at_stand : {A : Type 0} {P : A → Type 0} {r : A} {rs : List A} → All P rs → Stands r rs → P r
at_stand {A = A} {P = P} {r = r} none x3 = elim x3 [ ]
at_stand (more h hs) here = h
at_stand (more h hs) (later s) = at_stand hs s

module _ {A : Type 0} (id : A → Id) where
  -- below all of them
  over_absent : (i : Id) {rs : List A} → All (λ q. below i (id q) ≡ true) rs → any (λ q. same (id q) i) rs ≡ false
  unfolding any
  over_absent i none = refl
  over_absent i (more {a = q} h hs) = rw (same_sym (id q) i, below_apart i (id q) h) (over_absent i hs)

  inserts_first : (r : A) {rs : List A} → All (λ q. below (id r) (id q) ≡ true) rs → insert (λ x y. below (id x) (id y)) r rs ≡ r ∷ rs
  unfolding insert
  inserts_first r none = refl
  inserts_first r (more h hs) = rw h

  placed_own : {r : A} {qs : List A} → Up id qs → Stands r qs → placed id r qs ≡ qs
  unfolding placed dropped keep insert
  placed_own {r = r} end x3 = elim x3 [ ]
  placed_own {r} (step {rs} a u) here =
      let d : dropped id (id r) (r ∷ rs) ≡ rs = rw (same_refl (id r)) (dropped_absent id (id r) rs (over_absent (id r) a)) in
      ap (insert (λ x y. below (id x) (id y)) r) d ∙ inserts_first r a
  placed_own {r} (step {r = q} {rs} a u) (later s) =
      let b : below (id q) (id r) ≡ true = at_stand a s in
      rw (below_apart (id q) (id r) b, below_asym (id q) (id r) b) (ap (λ (l : List A). q ∷ l) (placed_own u s))

  settled_own : {qs rs : List A} → Up id qs → All (λ r. Stands r qs) rs → settled id qs rs ≡ qs
  unfolding settled
  settled_own u none = refl
  settled_own u (more s ss) = rw (placed_own u s) (settled_own u ss)

-- ---- what is among records, by their ids or by all of their bytes

any_count : {A : Type 0} (p : A → Bool) (xs : List A) → any p xs ≡ ltb 0 (count p xs)
unfolding any count
any_count p [] = refl
any_count p (x ∷ xs) = go (p x) (any_count p xs)
  where
    go : (t : Bool) → any p xs ≡ ltb 0 (count p xs) → (t || any p xs) ≡ ltb 0 (bit t + count p xs)
    go true e = sym (lt-ltb 0 (1 + count p xs) (omega arith))
    go false e = rw zero-add e

any_turned : (i : Id) (rs : List (List ℕ)) → any (λ r. same (id_of r) i) rs ≡ any (λ r. same i (id_of r)) rs
unfolding any
any_turned i [] = refl
any_turned i (r ∷ rs) = rw (same_sym (id_of r) i, any_turned i rs)

module _ (see : List ℕ → List ℕ) where
  -- each record is among the records
  pub owns : (rs : List (List ℕ)) → All (λ t. any (λ r. same (see r) (see t)) rs ≡ true) rs
  unfolding any
  owns [] = none
  owns (r ∷ rs) = more {a = r} now_here (all_imply (λ t h. later_on (same (see r) (see t)) (any (λ q. same (see q) (see t)) rs) h) (owns rs))
    where
      now_here : (same (see r) (see r) || any (λ q. same (see q) (see r)) rs) ≡ true
      now_here = rw (same_refl (see r))

      later_on : (a b : Bool) → b ≡ true → (a || b) ≡ true
      later_on true b h = refl
      later_on false b h = h

  -- in whatever order they stand
  pub shuffled_any : (rs qs : List (List ℕ)) → Shuffled rs qs → (i : List ℕ) → any (λ r. same (see r) i) qs ≡ any (λ r. same (see r) i) rs
  shuffled_any rs qs s i = any_count (λ r. same (see r) i) qs ∙ ap (ltb 0) (s.counts (λ r. same (see r) i)) ∙ sym (any_count (λ r. same (see r) i) rs)

stands : (r : List ℕ) (qs : List (List ℕ)) → any (λ q. same q r) qs ≡ true → Stands r qs
unfolding any
stands r [] h = absurd (true≢false (sym h))
stands r (q ∷ qs) h = go (same q r) refl (λ k. stands r qs k) h
  where
    go : (t : Bool) → same q r ≡ t → (any (λ p. same p r) qs ≡ true → Stands r qs) → (t || any (λ p. same p r) qs) ≡ true → Stands r (q ∷ qs)
    go true e f k = subst (λ (p : List ℕ). Stands r (p ∷ qs)) (sym (same_eq q r e)) here
    go false e f k = later (f k)

-- ---- the whole

-- with the same ids in both, each id of ts is among those of rs
pub no_other : (rs ts : List (List ℕ)) → ((i : Id) → any (λ r. same (id_of r) i) ts ≡ any (λ r. same (id_of r) i) rs) → All (λ t. any (λ r. same (id_of t) (id_of r)) rs ≡ true) ts
no_other rs ts e = all_imply (λ t h. sym (any_turned (id_of t) rs) ∙ sym (e (id_of t)) ∙ h) (owns id_of ts)

pub settled_sorted : (rs qs : List (List ℕ)) → Shuffled rs qs → rising (map id_of qs) ≡ true → settled id_of [] rs ≡ qs
settled_sorted rs qs s h =
    let up : Up id_of qs = up_of id_of qs h in
    sym (settled_over id_of rs up (no_other rs qs (shuffled_any id_of rs qs s)))
    ∙ settled_own id_of up (all_imply (λ t k. stands t qs (shuffled_any (λ r. r) rs qs s t ∙ k)) (owns (λ r. r) rs))
