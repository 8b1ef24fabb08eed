-- What counts as a zero, and which rows are empty: both sides of each edge. Computed. Assumes nothing.
use mathlib.Core.Path.{◌≡◌, refl}
use mathlib.Core.Bool.{true, false}
use mathlib.Core.List.{[], ◌∷◌, ◌++◌, map}
use lib.IntN.{pos, negsuc}
use lib.ListN.{replicate}
use lib.Ieee.{Float, nan, inf, fin}
use Rattle.rules.specs.Lists.{every}
use Rattle.rules.specs.Counts.{columns, nought, one, is_zero, empty_row}

-- -0.0
abbrev minus_nought : Float
minus_nought = fin true 0 (pos 0)

-- the numbers next to zero, 2 ^ -1074 and its negative
abbrev least_above : Float
least_above = fin false 1 (negsuc 1073)

abbrev least_below : Float
least_below = fin true 1 (negsuc 1073)

-- zeros of either sign, and nothing else
pub zeros_told : map is_zero (nought ∷ minus_nought ∷ least_above ∷ least_below ∷ one ∷ inf false ∷ inf true ∷ nan ∷ [])
    ≡ true ∷ true ∷ false ∷ false ∷ false ∷ false ∷ false ∷ false ∷ []
unfolding is_zero
zeros_told = refl

-- zeros of one sign or of both; one count more, in the first column or in the last; and one zero among ones
pub rows_told : map empty_row (
    replicate columns nought
    ∷ replicate columns minus_nought
    ∷ (replicate 12 nought ++ replicate 13 minus_nought)
    ∷ (least_above ∷ replicate 24 nought)
    ∷ (replicate 24 nought ++ (least_above ∷ []))
    ∷ (nought ∷ replicate 24 one)
    ∷ [])
    ≡ true ∷ true ∷ true ∷ false ∷ false ∷ false ∷ []
unfolding empty_row is_zero every
rows_told = refl
