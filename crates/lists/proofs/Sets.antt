-- Lists stored into a list from a place on: one after the other. Assumes nothing.
use mathlib.Core.Path.{◌≡◌, sym, ap, ◌∙◌}
use mathlib.Core.List.{List, [], ◌∷◌, ◌++◌}
use Prim.Native.Nat.{ℕ, suc, ◌+◌, ◌≤◌}
use native.Mathlib.Nat.{add-zero}
use native.Mathlib.Omega.{arith}
use lib.ListN.{length, drop, set}
use lib.Seq.{sets, sets-eq}

pub sets_append : {A : Type 0} (s : List A) (i : ℕ) (a b : List A) → sets s i (a ++ b) ≡ sets (sets s i a) (i + length a) b
sets_append {A} s i [] b = ap (λ (k : ℕ). sets s k b) (sym (add-zero i))
sets_append {A} s i (x ∷ a) b =
    let e : suc i + length a ≡ i + suc (length a) = omega arith in
    sets_append (set s i x) (suc i) a b ∙ ap (λ (k : ℕ). sets (sets (set s i x) (suc i) a) k b) e

-- what is put first stands first
pub put_first : {A : Type 0} (o file : List A) → length file ≤ length o → sets o 0 file ≡ file ++ drop (length file) o
put_first o file h = sets-eq file o 0 (omega arith) ∙ ap (λ (n : ℕ). file ++ drop n o) (z (length file))
  where
    z : (n : ℕ) → 0 + n ≡ n
    z n = omega arith
