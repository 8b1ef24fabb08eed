-- Counts multiplied by the factor time and again. Assumes nothing.
use mathlib.Core.Path.{◌≡◌, refl, ap}
use mathlib.Core.List.{[], ◌∷◌, map}
use Prim.Native.Nat.{ℕ, zero, suc}
use lib.Ieee.{Float}
use Rattle.rules.specs.Counts.{Counts, apply_decay}
use Rattle.decay.specs.Decay.{often}

-- no time at all
pub none : (d : Float) (xs : Counts) → map (often 0 d) xs ≡ xs
unfolding often
none d [] = refl
none d (x ∷ xs) = ap (λ (ys : Counts). x ∷ ys) (none d xs)

-- one time
pub once : (d : Float) (xs : Counts) → map (often 1 d) xs ≡ apply_decay d xs
unfolding apply_decay often
once d xs = refl

-- one time more
pub once_more : (n : ℕ) (d : Float) (xs : Counts) → apply_decay d (map (often n d) xs) ≡ map (often (suc n) d) xs
unfolding apply_decay often
once_more n d [] = refl
once_more n d (x ∷ xs) = ap (λ (ys : Counts). often (suc n) d x ∷ ys) (once_more n d xs)

-- what one time leaves as it is, many do
pub stays : (n : ℕ) (d : Float) (xs : Counts) → apply_decay d xs ≡ xs → map (often n d) xs ≡ xs
stays zero d xs h = none d xs
stays (suc n) d xs h = rw (← once_more n d xs, stays n d xs h) h
