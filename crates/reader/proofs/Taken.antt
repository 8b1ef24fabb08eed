-- What stands in the bytes that a reader hands back, told by places of the file: a number, a byte, the records of a table. Assumes nothing.
use mathlib.Core.Path.{◌≡◌, refl, ap, ap₂, ◌∙◌}
use mathlib.Core.List.{List, ◌∷◌}
use Prim.Native.Nat.{ℕ, zero, suc, ◌+◌, ◌*◌, ◌≤◌, ◌<◌}
use native.Mathlib.Nat.{suc-mul}
use native.Mathlib.Omega.{arith}
use lib.ListN.{length, take, drop, get_or, length-drop}
use lib.Seq.{take-take, get_or-take, get_or-drop, length-take-le}
use Rattle.rules.specs.Bytes.{le}
use Rattle.rules.specs.Records.{records}
use Rattle.lists.proofs.Cut.{drop_take}
use Rattle.mem.specs.Le.{le_at}

module _ (n : ℕ) (s : List ℕ) (at : ℕ) (b : List ℕ) (e : b ≡ take n (drop at s)) where
  pub number_taken : le_at n b 0 ≡ le_at n s at
  number_taken = ap (λ (x : List ℕ). le (take n x)) e ∙ ap le (take-take n n (drop at s) (omega arith))

  pub long_taken : at + n ≤ length s → length b ≡ n
  long_taken h = ap length e ∙ length-take-le n (drop at s) (simp length-drop (omega arith))

  pub byte_taken : 0 < n → get_or b 0 0 ≡ get_or s at 0
  byte_taken h =
      let z : at + 0 ≡ at = omega arith in
      ap (λ (x : List ℕ). get_or x 0 0) e ∙ get_or-take n (drop at s) 0 0 h ∙ get_or-drop at s 0 0 ∙ ap (λ (i : ℕ). get_or s i 0) z

-- of n records' bytes, n records
pub records_taken : (size n : ℕ) (xs : List ℕ) → n * size ≤ length xs → records size n (take (n * size) xs) ≡ records size n xs
unfolding records
records_taken size zero xs h = refl
records_taken size (suc n) xs h =
    let e : suc n * size ≡ size + n * size = omega (arith, suc-mul n size) in
    ap₂ (λ (x : List ℕ) (y : List (List ℕ)). x ∷ y) (take-take size (suc n * size) xs (omega (arith, e)))
    (ap (λ (k : ℕ). records size n (drop size (take k xs))) e
    ∙ ap (records size n) (drop_take size (n * size) xs (omega (arith, e)))
    ∙ records_taken size n (drop size xs) (simp length-drop (omega (arith, e))))
