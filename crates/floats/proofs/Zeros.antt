-- The decay leaves a zero as it is, with its sign, because its factor is above zero; so a row that holds only zeros is the same bits before and after, and
-- need not be written. Assumes nothing.
use mathlib.Core.Path.{◌≡◌, refl, sym, ap₂, subst}
use mathlib.Core.Bool.{true, false, true≢false}
use mathlib.Core.List.{List, [], ◌∷◌}
use Prim.Native.Nat.{ℕ, zero, suc, ◌*◌, ◌<◌}
use native.Mathlib.Nat.{mul-pos, zero-lt-suc}
use native.Mathlib.Omega.{arith}
use lib.IntN.{ℤ}
use lib.Dec.{T}
use lib.ListN.{length, get_or}
use lib.Ieee.{Float, nan, inf, fin, binary64, up, down, fits, mul, eq}
use lib.Ieee.Fits.{up_pos}
use borrow.Author.Tests.{eq-eqb, ne_eqb}
use Rattle.rules.specs.Lists.{every}
use Rattle.rules.specs.Counts.{Counts, nought, apply_decay, is_zero, empty_row}
use Rattle.rules.proofs.Records.{and_left, and_right}
use Rattle.floats.specs.Factor.{Factor}
use Rattle.floats.proofs.Fit.{zero_flat}
use Rattle.floats.proofs.Unsigned.{zero_times}
use Rattle.floats.proofs.Count.{factor_unsigned}

-- `x == 0.0` is true of a zero of either sign, and of nothing else
pub zero_tested : (x : Float) → eq x nought ≡ is_zero x
unfolding eq is_zero
zero_tested nan = refl
zero_tested (inf s) = refl
zero_tested (fin true zero e) = rw (eq-eqb (0 * up e * 1) (0 * down e) (omega arith), eq-eqb (0 * up e * 1) 0 (omega arith))
zero_tested (fin false zero e) = rw (eq-eqb (0 * up e * 1) (0 * down e) (omega arith))
zero_tested (fin s (suc m) e) = rw (ne_eqb (suc m * up e * 1) (0 * down e) (λ z. omega (arith, z, mul-pos (zero-lt-suc m) (up_pos e))))

pub zero_stays : (x : Float) {d : Float} → Factor d → T (fits binary64 x) → is_zero x ≡ true → mul binary64 x d ≡ x
unfolding is_zero
zero_stays nan q f h = absurd (true≢false (sym h))
zero_stays (inf s) q f h = absurd (true≢false (sym h))
zero_stays (fin s zero e) {d} q f h = subst (λ (z : ℤ). mul binary64 (fin s 0 z) d ≡ fin s 0 z) (sym (zero_flat s e f)) (zero_times s (factor_unsigned q))
zero_stays (fin s (suc m) e) q f h = absurd (true≢false (sym h))

-- a row of binary64 numbers, as each place of a lent slice is
pub row_stays : {d : Float} → Factor d → (row : Counts) → ((i : ℕ) → i < length row → T (fits binary64 (get_or row i nan))) → empty_row row ≡ true → apply_decay d row ≡ row
unfolding apply_decay empty_row every
row_stays q [] f h = refl
row_stays q (x ∷ xs) f h =
    ap₂ {C = List Float} (λ y ys. y ∷ ys)
    (zero_stays x q (f 0 (omega arith)) (and_left (is_zero x) (every is_zero xs) h))
    (row_stays q xs (λ i k. f (suc i) (omega arith)) (and_right (is_zero x) (every is_zero xs) h))
