-- The records of a list of bytes, by number, and their ids. Assumes nothing.
use mathlib.Core.Path.{◌≡◌, sym, ap, ◌∙◌}
use mathlib.Core.List.{List, [], map}
use Prim.Native.Nat.{ℕ, zero, suc, ◌+◌, ◌*◌, ◌≤◌, ◌<◌}
use native.Mathlib.Nat.{not-suc-le-zero, le_of_suc-le-suc, zero-mul, suc-mul, add_comm, mul-le-mul_right}
use lib.ListN.{length, take, drop, get_or, length-map, get_or-map}
use lib.Seq.{drop-drop, take-take}
use Rattle.rules.specs.Records.{records, id_of}
use Rattle.rules.proofs.Records.{length_records}
use Rattle.ids.proofs.Ids.{id32}

pub get_or_records : (size n i : ℕ) (xs : List ℕ) → i < n → get_or (records size n xs) i [] ≡ take size (drop (i * size) xs)
unfolding records
get_or_records size zero i xs h = absurd (not-suc-le-zero h)
get_or_records size (suc n) zero xs h = rw zero-mul
get_or_records size (suc n) (suc i) xs h =
    get_or_records size n i (drop size xs) (le_of_suc-le-suc h)
    ∙ ap (take size) (drop-drop (i * size) size xs ∙ ap (λ (k : ℕ). drop k xs) (add_comm size (i * size) ∙ sym (suc-mul i size)))

-- record i ends within the records
pub record_end : (size n i : ℕ) → i < n → i * size + size ≤ n * size
record_end size n i h = rw suc-mul at (mul-le-mul_right size h)

-- ---- ids

pub length_ids : (size n : ℕ) (xs : List ℕ) → length (map id_of (records size n xs)) ≡ n
length_ids size n xs = length-map (records size n xs) id_of ∙ length_records size n xs

pub id_at : (size n i : ℕ) (xs : List ℕ) → 32 ≤ size → i < n → id_of (get_or (records size n xs) i []) ≡ id32 (i * size) xs
id_at size n i xs h k = ap (take 32) (get_or_records size n i xs k) ∙ take-take 32 size (drop (i * size) xs) h

pub get_or_ids : (size n i : ℕ) (xs : List ℕ) → 32 ≤ size → i < n → get_or (map id_of (records size n xs)) i [] ≡ id32 (i * size) xs
get_or_ids size n i xs h k = get_or-map id_of (records size n xs) i [] ∙ id_at size n i xs h k
