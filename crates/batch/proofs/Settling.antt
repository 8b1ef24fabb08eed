-- One listed pending record in its confirmed record: what its height becomes there, as a look at the table tells. Assumes nothing.
use mathlib.Core.Path.{◌≡◌, refl, sym, ap, ap₂, ◌∙◌}
use mathlib.Core.Bool.{Bool, true, false, ◌&&◌, ◌||◌, cond, or-false}
use mathlib.Core.List.{List, [], ◌∷◌}
use Prim.Native.Nat.{ℕ}
use lib.Dec.{eqb}
use Rattle.rules.specs.Lists.{any}
use Rattle.rules.specs.Ids.{Id, same}
use Rattle.rules.specs.Board.{Pending, Confirmed}
use Rattle.rules.specs.Estimator.{is_pending, become, holds}
use Rattle.rules.proofs.Ids.{Up, same_eq, up_placed}
use Rattle.batch.specs.Batch.{at_height, is_confirmed, lifted, renewed, raised}
use Rattle.batch.proofs.Heights.{held_confirmed, not_held, holds_only, holds_become, known_by_holding}
use Rattle.batch.proofs.Merging.{holds_raised, up_raised}

module _ (B : ℕ) where
  -- one, and then the others
  pub raised_next : (r : Pending) (rs : List Pending) (cs : List Confirmed) → raised B (r ∷ rs) cs ≡ raised B rs (raised B (r ∷ []) cs)
  unfolding raised is_pending any
  raised_next r rs [] = refl
  raised_next r rs (c ∷ cs) = ap₂ {C = List Confirmed} (λ x xs. x ∷ xs) (go (same r.id c.id) (is_pending c.id rs) refl) (raised_next r rs cs)
    where
      go : (s t : Bool) → any (λ q. same q.id c.id) rs ≡ t
          → lifted B (s || t) c ≡ lifted B (any (λ q. same q.id (lifted B (s || false) c).id) rs) (lifted B (s || false) c)
      go true true e = rw e
      go true false e = rw e
      go false true e = rw e
      go false false e = rw e

  -- of one record its id alone decides
  pub renewed_is : (r : Pending) (cs : List Confirmed) → renewed B r.id cs ≡ raised B (r ∷ []) cs
  unfolding renewed raised is_pending any
  renewed_is r [] = refl
  renewed_is r (c ∷ cs) = ap₂ {C = List Confirmed} (λ x xs. x ∷ xs) (ap (λ (t : Bool). lifted B t c) (sym (or-false (same r.id c.id)))) (renewed_is r cs)

  module _ (r : Pending) {cs : List Confirmed} (u : Up (λ c. c.id) cs) where
    holds_one : (j : Id) (h : ℕ) → holds j h (raised B (r ∷ []) cs) ≡ cond (same r.id j) (is_confirmed r.id cs && eqb B h) (holds j h cs)
    unfolding is_pending any
    holds_one j h = holds_raised B j h (r ∷ []) cs ∙ go (same r.id j) refl
      where
        go : (t : Bool) → same r.id j ≡ t → cond (t || false) (is_confirmed j cs && eqb B h) (holds j h cs) ≡ cond t (is_confirmed r.id cs && eqb B h) (holds j h cs)
        go true e = ap (λ (i : Id). is_confirmed i cs && eqb B h) (sym (same_eq r.id j e))
        go false e = refl

    -- what it becomes is what holds as much
    becomes : {ds : List Confirmed} → Up (λ c. c.id) ds → ((j : Id) (h : ℕ) → holds j h ds ≡ cond (same r.id j) (is_confirmed r.id cs && eqb B h) (holds j h cs)) → raised B (r ∷ []) cs ≡ ds
    becomes v e = known_by_holding (up_raised B (r ∷ []) u) v (λ j h. holds_one j h ∙ sym (e j h))

    -- it is unchanged if what it holds of the record is this already
    unchanged : ((h : ℕ) → holds r.id h cs ≡ (is_confirmed r.id cs && eqb B h)) → raised B (r ∷ []) cs ≡ cs
    unchanged e = becomes u (λ j h. go j h (same r.id j) refl)
      where
        go : (j : Id) (h : ℕ) (t : Bool) → same r.id j ≡ t → holds j h cs ≡ cond t (is_confirmed r.id cs && eqb B h) (holds j h cs)
        go j h true q = ap (λ (i : Id). holds i h cs) (sym (same_eq r.id j q)) ∙ e h
        go j h false q = refl

    -- its confirmed record holds B already
    pub raised_held : holds r.id B cs ≡ true → raised B (r ∷ []) cs ≡ cs
    raised_held e = unchanged (λ h. holds_only r.id B h u e ∙ ap (λ (t : Bool). t && eqb B h) (sym (held_confirmed r.id B cs e)))

    -- there is no confirmed record of it
    pub raised_absent : is_confirmed r.id cs ≡ false → raised B (r ∷ []) cs ≡ cs
    raised_absent e = unchanged (λ h. not_held r.id h cs e ∙ ap (λ (t : Bool). t && eqb B h) (sym e))

    -- there is one, and the rules' step makes the same of it
    pub raised_become : is_confirmed r.id cs ≡ true → raised B (r ∷ []) cs ≡ become r.id B cs
    raised_become e =
        becomes (up_placed (λ c. c.id) (at_height B r) u)
        (λ j h. holds_become r.id B j h cs ∙ ap (λ (t : Bool). cond (same r.id j) (t && eqb B h) (holds j h cs)) (sym e))
