-- Laws of the sums, and of doubles as bits.
-- Assumes nothing.
use mathlib.Core.Path.{◌≡◌, refl, sym, ap, ◌∙◌, subst}
use mathlib.Core.Bool.{Bool, true, not}
use mathlib.Core.List.{List, [], ◌∷◌}
use Prim.Native.Nat.{ℕ, ◌%◌, ◌<◌, ◌≤◌}
use native.Mathlib.Nat.{div-div-eq-div-mul}
use borrow.Author.Tests.{le-ltb, lt-ltb}
use lib.Dec.{T}
use lib.Ieee.{Float, nan, inf, fin, binary64, is_nan, to_bits, of_bits, nan_bits}
use lib.Ieee.Bits.{nan_bits_is, nan_bits_above}
use Rattle.std.specs.Prelude.{fold}
use Rattle.std.proofs.lemmas.List.Sums.{fold-append}
use Rattle.std.specs.Int.{to_le_bytes}
use Rattle.std.proofs.Common.{w64}
use Rattle.rules.specs.Bytes.{bytes}
use Rattle.script.specs.Sums.{Parts, step, adler, doubles}

-- ---- sums

-- a number's eight bytes in the library's word
eight_bytes : (n : ℕ) → to_le_bytes w64 n ≡ bytes 8 n
unfolding bytes
eight_bytes n = simp div-div-eq-div-mul

-- a fold over the doubles, each as its eight bytes, is the sum of all those bytes
pub fold_doubles : (s : Parts) (xs : List Float) → fold (λ t x. adler t (to_le_bytes w64 (to_bits binary64 x))) s xs ≡ adler s (doubles xs)
unfolding doubles
fold_doubles s [] = refl
fold_doubles s (x ∷ xs) =
    let b = to_bits binary64 x in
    fold_doubles (adler s (to_le_bytes w64 b)) xs ∙ ap (λ (l : List ℕ). adler (adler s l) (doubles xs)) (eight_bytes b) ∙ sym (fold-append step s (bytes 8 b) (doubles xs))

-- ---- doubles

is_nan_lem : (x : Float) → is_nan x ≡ true → x ≡ nan
unfolding is_nan
is_nan_lem nan h = refl
is_nan_lem (inf s) h = absurd (subst T (sym h) tt)
is_nan_lem (fin s m e) h = absurd (subst T (sym h) tt)

-- the bits of a NaN
pub bits_of_nan : (x : Float) → is_nan x ≡ true → 9221120237041090560 ≡ to_bits binary64 x
unfolding to_bits
bits_of_nan x h = rw (is_nan_lem x h)

-- a pattern above that of infinity, the sign apart, is a NaN's
pub above_nan : (n : ℕ) → 9218868437227405312 < n % 9223372036854775808 → of_bits binary64 n ≡ nan
above_nan n h =
    is_nan_lem (of_bits binary64 n) (sym (nan_bits_is binary64 n) ∙ nan_bits_above binary64 n ∙ lt-ltb 9218868437227405312 (n % 9223372036854775808) h)

pub below_no_nan : (n : ℕ) → n % 9223372036854775808 ≤ 9218868437227405312 → T (not (nan_bits binary64 n))
below_no_nan n h = subst (λ (b : Bool). T (not b)) (sym (nan_bits_above binary64 n ∙ le-ltb 9218868437227405312 (n % 9223372036854775808) h)) tt
