-- The last of the new records goes in between the old ones that are not above it and those that are; the other new ones go in below it. Assumes nothing.
use mathlib.Core.Path.{◌≡◌, refl, ap, ◌∙◌}
use mathlib.Core.Bool.{Bool, true, false, cond}
use mathlib.Core.List.{List, [], ◌∷◌, ◌++◌}
use Rattle.rules.specs.Lists.{insert}
use Rattle.rules.specs.Ids.{Id, below}
use Rattle.rules.proofs.All.{All, none, more}
use Rattle.batch.specs.Batch.{merged}

module _ {A : Type 0} (id : A → Id) where
  abbrev into : A → List A → List A
  into n cs = insert (λ x y. below (id x) (id y)) n cs

  -- one that is below c goes in before it
  into_before : (n c : A) (cs above : List A) → below (id n) (id c) ≡ true → into n (cs ++ c ∷ above) ≡ into n cs ++ c ∷ above
  unfolding insert
  into_before n c [] above h = rw h
  into_before n c (x ∷ cs) above h = go (below (id n) (id x)) (into_before n c cs above h)
    where
      go : (t : Bool) → into n (cs ++ c ∷ above) ≡ into n cs ++ c ∷ above → cond t (n ∷ x ∷ (cs ++ c ∷ above)) (x ∷ into n (cs ++ c ∷ above)) ≡ cond t (n ∷ x ∷ cs) (x ∷ into n cs) ++ c ∷ above
      go true e = refl
      go false e = ap (λ (l : List A). x ∷ l) e

  into_between : (x : A) {cs above : List A} → All (λ c. below (id x) (id c) ≡ false) cs → All (λ c. below (id x) (id c) ≡ true) above → into x (cs ++ above) ≡ cs ++ x ∷ above
  unfolding insert
  into_between x none none = refl
  into_between x none (more h hs) = rw h
  into_between x (more {a = c} h hs) g = rw h (ap (λ (l : List A). c ∷ l) (into_between x hs g))

  merged_before : (ns : List A) (c : A) (cs above : List A) → All (λ n. below (id n) (id c) ≡ true) ns → merged id ns (cs ++ c ∷ above) ≡ merged id ns cs ++ c ∷ above
  unfolding merged
  merged_before [] c cs above none = refl
  merged_before (n ∷ ns) c cs above (more h hs) = ap (into n) (merged_before ns c cs above hs) ∙ into_before n c (merged id ns cs) above h

  merged_snoc : (ns : List A) (x : A) (cs : List A) → merged id (ns ++ x ∷ []) cs ≡ merged id ns (into x cs)
  unfolding merged
  merged_snoc [] x cs = refl
  merged_snoc (n ∷ ns) x cs = ap (into n) (merged_snoc ns x cs)

  pub merged_last : (ns : List A) (x : A) {cs above : List A} → All (λ n. below (id n) (id x) ≡ true) ns → All (λ c. below (id x) (id c) ≡ false) cs → All (λ c. below (id x) (id c) ≡ true) above
      → merged id (ns ++ x ∷ []) (cs ++ above) ≡ merged id ns cs ++ x ∷ above
  merged_last ns x {cs} {above} u h g = merged_snoc ns x (cs ++ above) ∙ ap (merged id ns) (into_between x h g) ∙ merged_before ns x cs above u
