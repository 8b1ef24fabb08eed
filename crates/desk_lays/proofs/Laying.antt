-- What is laid into lent memory. Assumes nothing.
use mathlib.Core.Path.{◌≡◌, sym, ap₂, ◌∙◌}
use mathlib.Core.Bool.{Bool}
use Prim.Native.Nat.{ℕ}
use borrow.Author.Tests.{eq-eqb, ne_eqb}
use Rattle.desk_lays.specs.Lays.{laid, in_one}

module _ {A : Type 0} (which : ℕ) (fits : A → Bool) (changed : A → A) (x y : A) (r : Bool) (z : A) where
  -- the first is changed
  pub in_first : which ≡ 0 → r ≡ fits x → z ≡ changed x → laid r z y ≡ in_one which fits changed x y
  unfolding in_one
  in_first e p q = ap₂ (λ (b : Bool) (t : A). laid b t y) p q ∙ sym (rw (eq-eqb which 0 e))

  -- the second is
  pub in_second : (which ≡ 0 → ⊥) → r ≡ fits y → z ≡ changed y → laid r x z ≡ in_one which fits changed x y
  unfolding in_one
  in_second n p q = ap₂ (λ (b : Bool) (t : A). laid b x t) p q ∙ sym (rw (ne_eqb which 0 n))
