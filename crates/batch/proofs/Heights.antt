-- Confirmed records whose ids rise are known by what they hold: two such tables that hold the same heights for the same ids are one. Of equal first ids the
-- heights agree; of different ones the lower is missing in the other table. Assumes nothing.
use mathlib.Core.Path.{◌≡◌, refl, sym, ap, ap₂, subst, ◌∙◌}
use mathlib.Core.Bool.{Bool, true, false, not, ◌&&◌, ◌||◌, cond, true≢false, or-false, and-true}
use mathlib.Core.List.{List, [], ◌∷◌}
use Prim.Native.Nat.{ℕ}
use lib.Dec.{eqb}
use borrow.Author.Tests.{eqb-true, eq-eqb}
use Rattle.rules.specs.Lists.{any, keep}
use Rattle.rules.specs.Ids.{Id, same, below, dropped, placed}
use Rattle.rules.specs.Board.{Confirmed}
use Rattle.rules.specs.Estimator.{holds, become}
use Rattle.rules.proofs.All.{All, more}
use Rattle.rules.proofs.Ids.{Up, end, step, same_eq, same_refl, same_sym, below_other, all_above}
use Rattle.rules.proofs.Room.{above_absent}
use Rattle.lists.proofs.Counting.{any_keep}
use Rattle.batch.specs.Batch.{is_confirmed}
use Rattle.batch.proofs.Keeping.{any_ext, any_none, any_insert}

abbrev Rising : List Confirmed → Type 0
Rising cs = Up (λ c. c.id) cs

abbrev Over : Id → List Confirmed → Type 0
Over i cs = All (λ q. below i q.id ≡ true) cs

-- ---- what a table holds

-- what is held is there
pub held_confirmed : (i : Id) (B : ℕ) (cs : List Confirmed) → holds i B cs ≡ true → is_confirmed i cs ≡ true
unfolding holds is_confirmed any
held_confirmed i B [] h = h
held_confirmed i B (c ∷ cs) h = go (same c.id i) h (held_confirmed i B cs)
  where
    go : (t : Bool) → ((t && eqb c.height B) || holds i B cs) ≡ true → (holds i B cs ≡ true → is_confirmed i cs ≡ true) → (t || is_confirmed i cs) ≡ true
    go true h f = refl
    go false h f = f h

pub not_held : (i : Id) (h : ℕ) (cs : List Confirmed) → is_confirmed i cs ≡ false → holds i h cs ≡ false
not_held i h cs e = go (holds i h cs) refl
  where
    go : (t : Bool) → holds i h cs ≡ t → t ≡ false
    go true q = sym (held_confirmed i h cs q) ∙ e
    go false q = refl

-- nothing for an id below all of its own
over_none : (i : Id) (h : ℕ) {cs : List Confirmed} → Over i cs → holds i h cs ≡ false
unfolding is_confirmed
over_none i h {cs} a = not_held i h cs (above_absent (λ c. c.id) i a)

-- one height for an id
pub holds_only : (i : Id) (B h : ℕ) {cs : List Confirmed} → Rising cs → holds i B cs ≡ true → holds i h cs ≡ eqb B h
unfolding holds any
holds_only i B h end e = absurd (true≢false (sym e))
holds_only i B h (step {r = c} {rs = cs} a u) e = go (same c.id i) refl e (holds_only i B h u)
  where
    go : (t : Bool) → same c.id i ≡ t → ((t && eqb c.height B) || holds i B cs) ≡ true → (holds i B cs ≡ true → holds i h cs ≡ eqb B h)
        → ((t && eqb c.height h) || holds i h cs) ≡ eqb B h
    go true q e f =
        let over : Over i cs = subst (λ (j : Id). Over j cs) (same_eq c.id i q) a in
        let here : (eqb c.height B || false) ≡ true = rw (over_none i B over) at e in
        rw (over_none i h over) (high (eqb c.height B) refl here)
      where
        high : (t : Bool) → eqb c.height B ≡ t → (t || false) ≡ true → (eqb c.height h || false) ≡ eqb B h
        high true p x = rw (eqb-true c.height B p) (or-false (eqb B h))
        high false p x = absurd (true≢false (sym x))
    go false q e f = f e

pub holds_become : (i : Id) (B : ℕ) (j : Id) (h : ℕ) (cs : List Confirmed) → holds j h (become i B cs) ≡ cond (same i j) (eqb B h) (holds j h cs)
unfolding holds placed dropped
holds_become i B j h cs =
    any_insert (λ c. same c.id j && eqb c.height h) (λ x y. below x.id y.id) (record { id = i; height = B }) (keep (λ c. not (same c.id i)) cs)
    ∙ ap (λ (t : Bool). (same i j && eqb B h) || t) (any_keep (λ c. same c.id j && eqb c.height h) (λ c. not (same c.id i)) cs)
    ∙ go (same i j) refl
  where
    gone : same i j ≡ true → (c : Confirmed) → ((same c.id j && eqb c.height h) && not (same c.id i)) ≡ false
    gone e c = ap (λ (a : Id). (same c.id j && eqb c.height h) && not (same c.id a)) (same_eq i j e) ∙ no (same c.id j) (eqb c.height h)
      where
        no : (a b : Bool) → ((a && b) && not a) ≡ false
        no true true = refl
        no true false = refl
        no false b = refl

    left : same i j ≡ false → (c : Confirmed) → ((same c.id j && eqb c.height h) && not (same c.id i)) ≡ (same c.id j && eqb c.height h)
    left e c = at (same c.id i) refl
      where
        at : (t : Bool) → same c.id i ≡ t → ((same c.id j && eqb c.height h) && not t) ≡ (same c.id j && eqb c.height h)
        at true q = rw (ap (λ (a : Id). same a j) (same_eq c.id i q) ∙ e)
        at false q = and-true (same c.id j && eqb c.height h)

    go : (t : Bool) → same i j ≡ t → ((t && eqb B h) || any (λ c. (same c.id j && eqb c.height h) && not (same c.id i)) cs) ≡ cond t (eqb B h) (any (λ c. same c.id j && eqb c.height h) cs)
    go true e = ap (λ (t : Bool). eqb B h || t) (any_ext (λ c. (same c.id j && eqb c.height h) && not (same c.id i)) (λ c. false) (gone e) cs ∙ any_none cs) ∙ or-false (eqb B h)
    go false e = any_ext (λ c. (same c.id j && eqb c.height h) && not (same c.id i)) (λ c. same c.id j && eqb c.height h) (left e) cs

-- ---- known by what it holds

holds_own : (c : Confirmed) (cs : List Confirmed) → holds c.id c.height (c ∷ cs) ≡ true
unfolding holds any
holds_own c cs = rw (same_refl c.id, eq-eqb c.height c.height refl)

-- the same first record, and then the rest hold the same
rest_holds : (c : Confirmed) (cs ds : List Confirmed) → Over c.id cs → Over c.id ds → ((i : Id) (h : ℕ) → holds i h (c ∷ cs) ≡ holds i h (c ∷ ds)) → (i : Id) (h : ℕ) → holds i h cs ≡ holds i h ds
unfolding holds any
rest_holds c cs ds a b e i h = go (same c.id i) refl (e i h)
  where
    go : (t : Bool) → same c.id i ≡ t → ((t && eqb c.height h) || holds i h cs) ≡ ((t && eqb c.height h) || holds i h ds) → holds i h cs ≡ holds i h ds
    go true q f =
        let x : holds i h cs ≡ false = over_none i h (subst (λ (j : Id). Over j cs) (same_eq c.id i q) a) in
        let y : holds i h ds ≡ false = over_none i h (subst (λ (j : Id). Over j ds) (same_eq c.id i q) b) in
        x ∙ sym y
    go false q f = f

-- of two first records none is below the other, and they are the same
first_same : (c d : Confirmed) {cs ds : List Confirmed} → Over c.id cs → Over d.id ds → ((i : Id) (h : ℕ) → holds i h (c ∷ cs) ≡ holds i h (d ∷ ds)) → c ≡ d
unfolding holds any
first_same c d {cs} {ds} a b e = go (below c.id d.id) (below d.id c.id) refl refl
  where
    go : (s t : Bool) → below c.id d.id ≡ s → below d.id c.id ≡ t → c ≡ d
    go true t p q =
        absurd (true≢false (sym (holds_own c cs) ∙ e c.id c.height ∙ over_none c.id c.height (more p (all_above (λ c. c.id) c d ds p b))))
    go false true p q =
        absurd (true≢false (sym (holds_own d ds) ∙ sym (e d.id d.height) ∙ over_none d.id d.height (more q (all_above (λ c. c.id) d c cs q a))))
    go false false p q = alike (same c.id d.id) refl
      where
        alike : (t : Bool) → same c.id d.id ≡ t → c ≡ d
        alike false n = absurd (true≢false (sym (below_other c.id d.id n q) ∙ p))
        alike true n =
            let ids : c.id ≡ d.id = same_eq c.id d.id n in
            let x : holds c.id c.height (d ∷ ds) ≡ true = sym (e c.id c.height) ∙ holds_own c cs in
            let none_of : holds c.id c.height ds ≡ false = over_none c.id c.height (subst (λ (j : Id). Over j ds) (sym ids) b) in
            let y : ((same d.id c.id && eqb d.height c.height) || false) ≡ true = rw none_of at x in
            let z : (true && eqb d.height c.height) || false ≡ true = rw (sym (same_sym c.id d.id) ∙ n) at y in
            ap₂ {C = Confirmed} (λ i h. record { id = i; height = h }) ids (sym (eqb-true d.height c.height (sym (or-false (eqb d.height c.height)) ∙ z)))

pub known_by_holding : {cs ds : List Confirmed} → Rising cs → Rising ds → ((i : Id) (h : ℕ) → holds i h cs ≡ holds i h ds) → cs ≡ ds
unfolding holds any
known_by_holding end end e = refl
known_by_holding end (step {r = d} {rs = ds} b v) e = absurd (true≢false (sym (holds_own d ds) ∙ sym (e d.id d.height)))
known_by_holding (step {r = c} {rs = cs} a u) end e = absurd (true≢false (sym (holds_own c cs) ∙ e c.id c.height))
known_by_holding (step {r = c} {rs = cs} a u) (step {r = d} {rs = ds} b v) e =
    let q : c ≡ d = first_same c d a b e in
    let f : (i : Id) (h : ℕ) → holds i h (c ∷ cs) ≡ holds i h (c ∷ ds) = subst (λ (x : Confirmed). (i : Id) (h : ℕ) → holds i h (c ∷ cs) ≡ holds i h (x ∷ ds)) (sym q) e in
    ap₂ {C = List Confirmed} (λ x xs. x ∷ xs) q (known_by_holding u v (rest_holds c cs ds a (subst (λ (x : Confirmed). Over x.id ds) (sym q) b) f))
