-- One pending record: what the look at its confirmed record tells decides whether it is counted, and how it is marked. Assumes nothing.
use mathlib.Core.Path.{◌≡◌, refl, sym, ap, ap₂, ◌∙◌}
use mathlib.Core.Bool.{Bool, true, false, cond}
use mathlib.Core.List.{List, [], ◌∷◌}
use Prim.Native.Nat.{ℕ, ◌*◌}
use lib.Dec.{leb, ltb}
use Rattle.rules.specs.Ids.{Id}
use Rattle.rules.specs.Counts.{Counts, gain}
use Rattle.rules.specs.Board.{Board, Pending, Confirmed}
use Rattle.rules.specs.Estimator.{holds, wait}
use Rattle.rules.specs.Memory.{lay_confirmed}
use Rattle.batch.specs.Batch.{is_confirmed, renewed, raised}
use Rattle.batch.proofs.Heights.{held_confirmed}
use Rattle.batch.proofs.Settling.{renewed_is}
use Rattle.settles.specs.declared.Held.{Held}
use Rattle.settles.specs.declared.Held.TheVariants.{Exactly, Another, Nothing}
use Rattle.settles.specs.Settled.{looked, Settled}

-- the mark that tells whether there is a confirmed record
abbrev pub mark_of : Held → ℕ
mark_of Exactly = 2
mark_of Another = 2
mark_of Nothing = 1

mark_is : (u : Bool) → mark_of (cond u Another Nothing) ≡ cond u 2 1
mark_is true = refl
mark_is false = refl

-- the id is lent as j
module _ (k : Board) (B : ℕ) (r : Pending) (j : Id) (its : j ≡ r.id) (cs : List Confirmed) (xs ys : Counts) (a a' : List ℕ) (was : Held)
    (told : was ≡ looked B j cs) (left : a' ≡ lay_confirmed (renewed B j cs) a) where
  heights : a' ≡ lay_confirmed (raised B (r ∷ []) cs) a
  heights = left ∙ ap (λ (i : Id). lay_confirmed (renewed B i cs) a) its ∙ ap (λ (l : List Confirmed). lay_confirmed l a) (renewed_is B r cs)

  answer : was ≡ looked B r.id cs
  answer = told ∙ ap (λ (i : Id). looked B i cs) its

  -- it held exactly B
  pub settled_held : was ≡ Exactly → Settled k B r cs xs ys a xs ys a' 2
  settled_held z = go (holds r.id B cs) (is_confirmed r.id cs) refl (sym answer ∙ z)
    where
      go : (t u : Bool) → holds r.id B cs ≡ t → cond t Exactly (cond u Another Nothing) ≡ Exactly → Settled k B r cs xs ys a xs ys a' 2
      go true u e w = record { confirmed = rw e; resolved = rw e; recent = heights; new = rw (held_confirmed r.id B cs e) }
      go false true e w = cc
      go false false e w = cc

  -- it did not: it is counted
  pub settled_counted : (was ≡ Exactly → ⊥) → (b e t : ℕ) → b ≡ r.bucket → e ≡ r.entry → t ≡ r.through → (xs' ys' : Counts)
      → xs' ≡ gain b (λ c. leb (wait B e) (k.width * c)) xs → ys' ≡ gain b (λ c. ltb t c) ys → (mark : ℕ) → mark ≡ mark_of was → Settled k B r cs xs ys a xs' ys' a' mark
  settled_counted z b e t p1 p2 p3 xs' ys' k1 k2 mark m = go (holds r.id B cs) refl answer
    where
      go : (u : Bool) → holds r.id B cs ≡ u → was ≡ cond u Exactly (cond (is_confirmed r.id cs) Another Nothing) → Settled k B r cs xs ys a xs' ys' a' mark
      go true f w = absurd (z w)
      go false f w =
          record {
            confirmed = k1 ∙ ap₂ (λ (x y : ℕ). gain x (λ c. leb (wait B y) (k.width * c)) xs) p1 p2
                ∙ sym (ap (λ (u : Bool). cond u xs (gain r.bucket (λ c. leb (wait B r.entry) (k.width * c)) xs)) f);
            resolved = k2 ∙ ap₂ (λ (x y : ℕ). gain x (λ c. ltb y c) ys) p1 p3 ∙ sym (ap (λ (u : Bool). cond u ys (gain r.bucket (λ c. ltb r.through c) ys)) f);
            recent = heights;
            new = m ∙ ap mark_of w ∙ mark_is (is_confirmed r.id cs);
          }
