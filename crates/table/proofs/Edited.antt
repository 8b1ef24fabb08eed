-- What an edit of a sound table, or a pass over it, leaves. Whatever was done, the slice still holds bytes, so its records are those of their bytes. Assumes nothing.
use mathlib.Core.Path.{◌≡◌, refl, sym, ap, ◌∙◌}
use mathlib.Core.Bool.{true}
use mathlib.Core.List.{List, [], ◌∷◌, map}
use Prim.Native.Nat.{ℕ, suc, ◌*◌, ◌≤◌, ◌<◌}
use native.Mathlib.Nat.{mul-le-mul_right}
use native.Mathlib.Omega.{arith}
use lib.Dec.{T, ltb, lt→ltb}
use lib.Ieee.Fits.{and_i}
use lib.ListN.{length, get_or, length-map}
use lib.Pow.{are_bytes}
use Rattle.rules.specs.Records.{records, capacity, sound_table, laid}
use Rattle.rules.specs.Board.{Kept}
use Rattle.rules.proofs.Records.{Sized, laid_records, laid_length}
use Rattle.rules.proofs.Memory.{forth_records}
use Rattle.table.proofs.Records.{cap_room}
use Rattle.table.proofs.Sound.{sound_told, laid_up}

-- the elements of a slice of bytes are bytes
pub are_bytes_lem : (xs : List ℕ) → ((i : ℕ) → get_or xs i 0 < 256) → T (are_bytes xs)
are_bytes_lem [] h = tt
are_bytes_lem (x ∷ xs) h = and_i (ltb x 256) (are_bytes xs) (lt→ltb x 256 (h 0)) (are_bytes_lem xs (λ i. h (suc i)))

module _ {A : Type 0} {size : ℕ} {to : A → List ℕ} {from : List ℕ → A} {Fits : A → Type 0} (k : Kept A size to from Fits) where
  -- the bytes that the records bs leave in n places, where bs stand for qs
  pub edited : (most used n : ℕ) (bs : List (List ℕ)) (qs : List A) (xs ys : List ℕ) → sound_table size most used xs ≡ true → T (are_bytes ys)
      → used ≤ n → n ≤ capacity size most xs → length bs ≤ n → Sized size bs → map from bs ≡ qs → ys ≡ laid size n bs xs
      → ys ≡ laid size (capacity size most xs) (map to qs) xs
  edited most used n bs qs xs ys s b u l h z e q =
      let room : n * size ≤ length xs = (let r = cap_room size most n _ xs refl l in omega arith) in
      let long : length ys ≡ length xs = ap length q ∙ laid_length size n bs xs z h room in
      let there : records size (length bs) ys ≡ bs = ap (records size (length bs)) q ∙ laid_records size n bs xs z in
      let again : map to (map from bs) ≡ bs = ap (λ (r : List (List ℕ)). map to (map from r)) (sym there) ∙ forth_records k (length bs) ys (omega (arith, mul-le-mul_right size h)) b ∙ there in
      q ∙ laid_up size most used n bs xs (sound_told size most used xs s) h u l ∙ ap (λ (r : List (List ℕ)). laid size (capacity size most xs) r xs) (sym again ∙ ap (map to) e)

  -- how many the records bs in these places are, and the bytes that they leave
  pub passed : (most used places n : ℕ) (bs : List (List ℕ)) (qs : List A) (xs ys : List ℕ) → sound_table size most used xs ≡ true → T (are_bytes ys)
      → used ≤ places → places ≤ capacity size most xs → length bs ≤ places → Sized size bs → map from bs ≡ qs → n ≡ length bs → ys ≡ laid size places bs xs
      → (n ≡ length qs) × (ys ≡ laid size (capacity size most xs) (map to qs) xs)
  passed most used places n bs qs xs ys s b u l h z e count q = (count ∙ sym (length-map bs from) ∙ ap length e, edited most used places bs qs xs ys s b u l h z e q)
