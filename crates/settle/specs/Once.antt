-- Of neighbours with one id the first. Assumes nothing.
use Rattle.std.specs.Prelude.{cond, ◌≡◌, ℕ, ◌*◌, List, [], ◌∷◌, length, take, drop}
use Rattle.rules.specs.Ids.{Id, same}
use Rattle.rules.specs.Records.{records, joined, id_of}

-- after a record of id i
unfoldable pub once_after : Id → List (List ℕ) → List (List ℕ)
once_after i [] = []
once_after i (r ∷ rs) = cond (same i (id_of r)) (once_after i rs) (r ∷ once_after (id_of r) rs)

-- of neighbours with one id the first stays
unfoldable pub once : List (List ℕ) → List (List ℕ)
once [] = []
once (r ∷ rs) = r ∷ once_after (id_of r) rs

-- they stand first, r of them, and what stands behind the used records is as it was
pub record Kept (size used : ℕ) (xs ys : List ℕ) (r : ℕ) : Type 0 where
  pub count : r ≡ length (once (records size used xs))
  pub front : take (r * size) ys ≡ joined (once (records size used xs))
  pub beyond : drop (used * size) ys ≡ drop (used * size) xs
