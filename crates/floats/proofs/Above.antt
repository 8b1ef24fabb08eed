-- No count above zero decays to zero: it is at least the smallest number, which the factor keeps, and a product grows with the number. Assumes nothing.
use mathlib.Core.Path.{◌≡◌, refl, sym, subst}
use mathlib.Core.Bool.{true, false, true≢false}
use Prim.Native.Nat.{zero, suc, ◌^◌}
use native.Mathlib.Nat.{one-mul, mul-pos, mul-le-mul_right, le_refl, le_of_eq, le_trans, zero-lt-suc}
use lib.IntN.{negsuc}
use lib.Dec.{T}
use lib.Ieee.{Float, nan, inf, fin, binary64, down, round, fits, mul, le}
use lib.Ieee.Fits.{up_pos}
use lib.Ieee.Positive.{positive, above, cross→le, above_of_le, mul_mono}
use Rattle.rules.specs.Counts.{decimal, finite, sound_count}
use Rattle.floats.proofs.Fit.{fit}
use Rattle.floats.specs.Factor.{Factor}
use Rattle.floats.proofs.Count.{Counted, decay_counted}

-- 2 ^ -1074
abbrev pub smallest : Float
smallest = fin false 1 (negsuc 1073)

pub base_keeps_smallest : mul binary64 smallest (decimal 998 1000) ≡ smallest
unfolding mul round
base_keeps_smallest = refl

at_least_smallest : (x : Float) → T (positive x) → T (fits binary64 x) → T (le smallest x)
at_least_smallest nan p f = absurd p
at_least_smallest (inf s) p f = absurd p
at_least_smallest (fin true m e) p f = absurd p
at_least_smallest (fin false zero e) p f = absurd p
at_least_smallest (fin false (suc m) e) p f =
    cross→le smallest (fin false (suc m) e) tt p (le_trans (le_of_eq (one-mul (down e))) (le_trans (fit false m e f).fine (le_trans (le_of_eq (sym (one-mul (2 ^ 1074)))) (mul-le-mul_right (2 ^ 1074) (mul-pos (zero-lt-suc m) (up_pos e))))))

above_counted : (z : Float) → T (above z) → sound_count z ≡ true → T (positive z)
unfolding sound_count finite
above_counted nan a c = absurd a
above_counted (inf s) a c = absurd (true≢false (sym c))
above_counted (fin true m e) a c = absurd a
above_counted (fin false m e) a c = a

pub decay_positive : {x d : Float} → Factor d → mul binary64 smallest d ≡ smallest → Counted x → T (positive x) → T (positive (mul binary64 x d))
decay_positive {x} {d} q keeps c p =
    let same : T (le d d) = cross→le d d q.above_zero q.above_zero (le_refl _) in
    let grown : T (le (mul binary64 smallest d) (mul binary64 x d)) = mul_mono binary64 smallest x d d tt p q.above_zero q.above_zero (at_least_smallest x p c.fit) same in
    above_counted (mul binary64 x d) (above_of_le smallest (mul binary64 x d) tt (subst (λ (y : Float). T (le y (mul binary64 x d))) keeps grown)) (decay_counted q c).count
