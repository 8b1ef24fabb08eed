-- Words compared, and what is found.
-- Assumes nothing.
use mathlib.Core.Path.{◌≡◌, refl, ap}
use mathlib.Core.Bool.{Bool, true, false, ◌&&◌, cond}
use mathlib.Core.List.{List, [], ◌∷◌}
use Prim.Native.Nat.{ℕ}
use lib.Dec.{eqb}
use lib.Pointwise.{pointwise}
use Rattle.std.specs.Prelude.{Option, Some, None}
use Rattle.std.specs.Option.{option_map, option_or}
use Rattle.rules.specs.Ids.{same}

-- what `==` says of two words
pub equal_same : (a b : List ℕ) → pointwise eqb a b ≡ same a b
unfolding same
equal_same [] [] = refl
equal_same [] (y ∷ b) = refl
equal_same (x ∷ a) [] = refl
equal_same (x ∷ a) (y ∷ b) = ap (λ (t : Bool). eqb x y && t) (equal_same a b)

-- what is made of the first that is found, made of each
pub option_map-cond : {T U : Type 0} (f : T → U) (t : Bool) (a b : Option T) → option_map f (cond t a b) ≡ cond t (option_map f a) (option_map f b)
option_map-cond f true a b = refl
option_map-cond f false a b = refl

pub option_or-None : {T : Type 0} (o : Option T) → option_or o None ≡ o
option_or-None None = refl
option_or-None (Some x) = refl
