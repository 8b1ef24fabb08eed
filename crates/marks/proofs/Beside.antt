-- Marks beside a table: an id that has no record marks nothing, and one that has a record marks it by one store, since no other record has the id. Assumes nothing.
use mathlib.Core.Path.{◌≡◌, refl, ap, ap₂, ◌∙◌}
use mathlib.Core.Bool.{Bool, true, false, ◌||◌, true≢false, or-true, or-false}
use mathlib.Core.List.{List, [], ◌∷◌}
use Prim.Native.Nat.{ℕ, zero, suc, ◌<◌}
use native.Mathlib.Nat.{not-suc-le-zero, le_of_suc-le-suc}
use lib.ListN.{length, get_or, set, replicate}
use Rattle.rules.specs.Lists.{bit, any}
use Rattle.rules.specs.Ids.{Id, same}
use Rattle.rules.proofs.All.{all_at}
use Rattle.rules.proofs.Ids.{Up, end, step, same_refl, below_apart}
use Rattle.rules.proofs.Room.{above_absent}
use Rattle.marks.specs.Marks.{beside}

module _ {A : Type 0} (id : A → Id) where
  pub beside_none : (rs : List A) → beside id (λ j. false) rs ≡ replicate (length rs) 0
  unfolding beside
  beside_none [] = refl
  beside_none (r ∷ rs) = ap (λ (l : List ℕ). 0 ∷ l) (beside_none rs)

  -- the next listed id, i, has no record
  pub beside_miss : (mark : Id → Bool) (i : Id) (rs : List A) → any (λ r. same (id r) i) rs ≡ false → beside id (λ j. mark j || same j i) rs ≡ beside id mark rs
  unfolding beside any
  beside_miss mark i [] e = refl
  beside_miss mark i (r ∷ rs) e = go (same (id r) i) e (beside_miss mark i rs)
    where
      go : (t : Bool) → (t || any (λ r. same (id r) i) rs) ≡ false → (any (λ r. same (id r) i) rs ≡ false → beside id (λ j. mark j || same j i) rs ≡ beside id mark rs)
          → ◌≡◌ {A = List ℕ} (bit (mark (id r) || t) ∷ beside id (λ j. mark j || same j i) rs) (bit (mark (id r)) ∷ beside id mark rs)
      go true e f = absurd (true≢false e)
      go false e f = ap₂ (λ (t : Bool) (l : List ℕ). bit t ∷ l) (or-false (mark (id r))) (f e)

  -- it is the id of record number n
  pub beside_hit : (mark : Id → Bool) (n : ℕ) (d : A) {rs : List A} → Up id rs → n < length rs → beside id (λ j. mark j || same j (id (get_or rs n d))) rs ≡ set (beside id mark rs) n 1
  unfolding beside
  beside_hit mark n d end h = absurd (not-suc-le-zero h)
  beside_hit mark zero d (step {r} {rs} a u) h =
      ap₂ (λ (t : Bool) (l : List ℕ). bit t ∷ l) (ap (λ (t : Bool). mark (id r) || t) (same_refl (id r)) ∙ or-true (mark (id r))) (beside_miss mark (id r) rs (above_absent id (id r) a))
  beside_hit mark (suc n) d (step {r} {rs} a u) h =
      let l : n < length rs = le_of_suc-le-suc h in
      let apart : same (id r) (id (get_or rs n d)) ≡ false = below_apart (id r) (id (get_or rs n d)) (all_at n d a l) in
      ap₂ (λ (t : Bool) (l : List ℕ). bit t ∷ l) (ap (λ (t : Bool). mark (id r) || t) apart ∙ or-false (mark (id r))) (beside_hit mark n d u l)
