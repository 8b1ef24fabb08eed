-- What the confirmed records hold once all marked ids are in: B for each id that went, and for every other id what they held before; and their ids rise.
-- Assumes nothing.
use mathlib.Core.Path.{◌≡◌, refl, sym, ap, ap₂, ◌∙◌}
use mathlib.Core.Bool.{Bool, true, false, not, ◌&&◌, ◌||◌, cond, or_assoc}
use mathlib.Core.List.{List, [], ◌∷◌, map}
use Prim.Native.Nat.{ℕ}
use lib.Dec.{eqb}
use Rattle.rules.specs.Lists.{any, keep}
use Rattle.rules.specs.Ids.{Id, same, below}
use Rattle.rules.specs.Board.{Pending, Confirmed}
use Rattle.rules.specs.Estimator.{is_pending, holds}
use Rattle.rules.proofs.All.{All, none, more, all_map}
use Rattle.rules.proofs.Ids.{Up, end, step, same_eq, up_keep, up_insert}
use Rattle.rules.proofs.Room.{above_absent}
use Rattle.batch.specs.Batch.{at_height, is_confirmed, lifted, raised, fresh_of, merged}
use Rattle.batch.proofs.Keeping.{any_ext, any_map, any_and, any_insert, has_kept}

-- ---- what they hold

merged_any : (p : Confirmed → Bool) (ns cs : List Confirmed) → any p (merged (λ c. c.id) ns cs) ≡ (any p ns || any p cs)
unfolding merged any
merged_any p [] cs = refl
merged_any p (n ∷ ns) cs = any_insert p _ n (merged (λ c. c.id) ns cs) ∙ ap (λ (t : Bool). p n || t) (merged_any p ns cs) ∙ sym (or_assoc (p n) (any p ns) (any p cs))

module _ (B : ℕ) (j : Id) (h : ℕ) where
  holds_new : (rs : List Pending) → holds j h (map (at_height B) rs) ≡ (is_pending j rs && eqb B h)
  unfolding holds is_pending
  holds_new rs = any_map (at_height B) (λ c. same c.id j && eqb c.height h) rs ∙ any_and (λ r. same r.id j) (eqb B h) rs

  pub holds_raised : (gone : List Pending) (cs : List Confirmed) → holds j h (raised B gone cs) ≡ cond (is_pending j gone) (is_confirmed j cs && eqb B h) (holds j h cs)
  unfolding holds raised is_confirmed
  holds_raised gone cs = any_map _ (λ c. same c.id j && eqb c.height h) cs ∙ any_ext _ (λ c. same c.id j && cond (is_pending j gone) (eqb B h) (eqb c.height h)) one cs ∙ out (is_pending j gone)
    where
      one : (c : Confirmed) → (same (lifted B (is_pending c.id gone) c).id j && eqb (lifted B (is_pending c.id gone) c).height h) ≡ (same c.id j && cond (is_pending j gone) (eqb B h) (eqb c.height h))
      one c = go (same c.id j) refl (is_pending c.id gone) refl
        where
          go : (t : Bool) → same c.id j ≡ t → (u : Bool) → is_pending c.id gone ≡ u
              → (same (lifted B u c).id j && eqb (lifted B u c).height h) ≡ (t && cond (is_pending j gone) (eqb B h) (eqb c.height h))
          go true e true f = rw (e, sym (ap (λ (i : Id). is_pending i gone) (same_eq c.id j e)) ∙ f)
          go true e false f = rw (e, sym (ap (λ (i : Id). is_pending i gone) (same_eq c.id j e)) ∙ f)
          go false e true f = rw e
          go false e false f = rw e

      out : (t : Bool) → any (λ c. same c.id j && cond t (eqb B h) (eqb c.height h)) cs ≡ cond t (any (λ c. same c.id j) cs && eqb B h) (any (λ c. same c.id j && eqb c.height h) cs)
      out true = any_and (λ c. same c.id j) (eqb B h) cs
      out false = refl

  pub holds_merged : (gone : List Pending) (cs : List Confirmed)
      → holds j h (merged (λ c. c.id) (map (at_height B) (fresh_of gone cs)) (raised B gone cs)) ≡ cond (is_pending j gone) (eqb B h) (holds j h cs)
  unfolding holds is_pending fresh_of
  holds_merged gone cs =
      merged_any (λ c. same c.id j && eqb c.height h) (map (at_height B) (fresh_of gone cs)) (raised B gone cs)
      ∙ ap₂ (λ (s t : Bool). s || t) (holds_new (fresh_of gone cs) ∙ ap (λ (t : Bool). t && eqb B h) fresh) (holds_raised gone cs)
      ∙ go (is_pending j gone) (is_confirmed j cs) (eqb B h) (holds j h cs)
    where
      fresh : is_pending j (fresh_of gone cs) ≡ (not (is_confirmed j cs) && is_pending j gone)
      fresh = has_kept (λ r. r.id) (λ i. not (is_confirmed i cs)) j gone

      go : (pend conf t u : Bool) → (((not conf && pend) && t) || cond pend (conf && t) u) ≡ cond pend t u
      go true true t u = refl
      go true false true u = refl
      go true false false u = refl
      go false true t u = refl
      go false false t u = refl

-- ---- and rise

up_same : {A B : Type 0} (a : A → Id) (b : B → Id) (f : A → B) → ((x : A) → b (f x) ≡ a x) → {xs : List A} → Up a xs → Up b (map f xs)
up_same a b f e end = end
up_same a b f e (step {r} o u) = step (all_map f (λ q h. ap₂ below (e r) (e q) ∙ h) o) (up_same a b f e u)

up_merged : {ns cs : List Confirmed} → Up (λ c. c.id) ns → Up (λ c. c.id) cs → All (λ n. is_confirmed n.id cs ≡ false) ns → Up (λ c. c.id) (merged (λ c. c.id) ns cs)
unfolding merged is_confirmed
up_merged end v none = v
up_merged {cs = cs} (step {r = n} {rs = ns} o u) v (more h hs) = up_insert (λ c. c.id) n absent (up_merged u v hs)
  where
    absent : any (λ q. same q.id n.id) (merged (λ c. c.id) ns cs) ≡ false
    absent = merged_any (λ q. same q.id n.id) ns cs ∙ ap₂ (λ (s t : Bool). s || t) (above_absent (λ c. c.id) n.id o) h

all_kept : {A : Type 0} (p : A → Bool) (xs : List A) → All (λ x. p x ≡ true) (keep p xs)
unfolding keep
all_kept p [] = none
all_kept p (x ∷ xs) = go (p x) refl (all_kept p xs)
  where
    go : (t : Bool) → p x ≡ t → All (λ x. p x ≡ true) (keep p xs) → All (λ x. p x ≡ true) (cond t (x ∷ keep p xs) (keep p xs))
    go true e h = more e h
    go false e h = h

pub raised_confirmed : (B : ℕ) (gone : List Pending) (i : Id) (cs : List Confirmed) → is_confirmed i (raised B gone cs) ≡ is_confirmed i cs
unfolding is_confirmed raised
raised_confirmed B gone i cs = any_map _ (λ c. same c.id i) cs ∙ any_ext _ (λ c. same c.id i) (λ c. one c (is_pending c.id gone)) cs
  where
    one : (c : Confirmed) (t : Bool) → same (lifted B t c).id i ≡ same c.id i
    one c true = refl
    one c false = refl

pub up_raised : (B : ℕ) (gone : List Pending) {cs : List Confirmed} → Up (λ c. c.id) cs → Up (λ c. c.id) (raised B gone cs)
unfolding raised
up_raised B gone u = up_same (λ c. c.id) (λ c. c.id) _ (λ c. kept c (is_pending c.id gone)) u
  where
    kept : (c : Confirmed) (t : Bool) → (lifted B t c).id ≡ c.id
    kept c true = refl
    kept c false = refl

pub up_together : (B : ℕ) {gone : List Pending} {cs : List Confirmed} → Up (λ r. r.id) gone → Up (λ c. c.id) cs
    → Up (λ c. c.id) (merged (λ c. c.id) (map (at_height B) (fresh_of gone cs)) (raised B gone cs))
unfolding fresh_of
up_together B {gone} {cs} u v =
    up_merged (up_same (λ r. r.id) (λ c. c.id) (at_height B) (λ r. refl) (up_keep (λ r. r.id) (λ r. not (is_confirmed r.id cs)) u))
    (up_raised B gone v)
    (all_map (at_height B) (λ r h. raised_confirmed B gone r.id cs ∙ no (is_confirmed r.id cs) h) (all_kept (λ r. not (is_confirmed r.id cs)) gone))
  where
    no : (t : Bool) → not t ≡ true → t ≡ false
    no true h = sym h
    no false h = refl
