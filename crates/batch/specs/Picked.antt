-- The records that marks pick, by places. Assumes nothing.
use Rattle.std.specs.Prelude.{ℕ, cond, List, [], ◌∷◌, eqb}

module _ {A : Type 0} where
  -- those whose mark is w
  unfoldable pub picked : ℕ → List ℕ → List A → List A
  picked w [] rs = []
  picked w (m ∷ ms) [] = []
  picked w (m ∷ ms) (r ∷ rs) = cond (eqb m w) (r ∷ picked w ms rs) (picked w ms rs)
