-- What a pass counts: confirmed records by their heights, pending records by their marks and a test. And marks beside a table. Assumes nothing.
use mathlib.Core.Path.{◌≡◌, refl, sym, ap, ap₂, ◌∙◌, fun_ext}
use mathlib.Core.Bool.{Bool, true, false, ◌&&◌}
use mathlib.Core.List.{List, [], ◌∷◌, ◌++◌, map}
use Prim.Native.Nat.{ℕ, ◌+◌, ◌≤◌, ◌<◌}
use native.Mathlib.Numerals.{add-one}
use native.Mathlib.Omega.{arith}
use lib.Dec.{leb, eqb}
use borrow.Author.Tests.{le-leb}
use lib.ListN.{length, take, drop, get_or, length-map, drop_of_length-le, get_or-map}
use lib.Seq.{drop-cons}
use Rattle.rules.specs.Lists.{bit, count}
use Rattle.rules.specs.Ids.{Id}
use Rattle.rules.specs.Records.{records, id_of}
use Rattle.rules.specs.Board.{Board, Pending, Confirmed, confirmed_size, confirmed_of}
use Rattle.rules.specs.Memory.{pending_records, confirmed_records}
use Rattle.rules.proofs.Records.{length_records}
use Rattle.rules.proofs.Memory.{pending_length}
use Rattle.lists.proofs.Counting.{length_kept, keep_all}
use Rattle.lists.proofs.Loop.{count_next, count_end}
use Rattle.marks.specs.Marks.{beside}
use Rattle.room.specs.Room.{marked_count}

-- ---- what is left, of those that are marked and pass a test

module _ {A : Type 0} (p : A → Bool) (xs : List A) where
  marked_next : (ms : List ℕ) (i : ℕ) (d : A) → i < length ms → i < length xs
      → marked_count p (drop i ms) (drop i xs) ≡ bit (eqb (get_or ms i 0) 1 && p (get_or xs i d)) + marked_count p (drop (i + 1) ms) (drop (i + 1) xs)
  unfolding marked_count
  marked_next ms i d h k = rw (add-one, drop-cons ms i 0 h, drop-cons xs i d k)

  marked_end : (ms : List ℕ) (i : ℕ) → length xs ≤ i → marked_count p (drop i ms) (drop i xs) ≡ 0
  unfolding marked_count
  marked_end ms i h = rw (drop_of_length-le xs {i = i} h)

-- ---- the records of the tables, by number

pub many : (used : ℕ) (xs : List ℕ) → length (confirmed_records used xs) ≡ used
unfolding confirmed_records
many used xs = length-map (records confirmed_size used xs) confirmed_of ∙ length_records confirmed_size used xs

module _ (low used : ℕ) (xs : List ℕ) where
  abbrev high : Confirmed → Bool
  high c = leb low c.height

  -- where the least height is 0 all stay
  pub all_high : low ≡ 0 → used ≡ count high (confirmed_records used xs)
  all_high e =
      sym (many used xs)
      ∙ ap length (sym (keep_all (confirmed_records used xs)))
      ∙ length_kept (λ c. true) (confirmed_records used xs)
      ∙ ap (λ (p : Confirmed → Bool). count p (confirmed_records used xs)) (fun_ext (λ c. sym (le-leb low c.height (omega arith))))

  pub high_next : (i v : ℕ) → i < used → v ≡ (confirmed_of (get_or (records confirmed_size used xs) i [])).height
      → count high (drop i (confirmed_records used xs)) ≡ bit (leb low v) + count high (drop (i + 1) (confirmed_records used xs))
  unfolding confirmed_records
  high_next i v h e =
      count_next high (confirmed_records used xs) i (confirmed_of []) (omega (arith, many used xs))
      ∙ ap (λ (c : Confirmed). bit (high c) + count high (drop (i + 1) (confirmed_records used xs))) (get_or-map confirmed_of (records confirmed_size used xs) i [])
      ∙ ap (λ (n : ℕ). bit (leb low n) + count high (drop (i + 1) (confirmed_records used xs))) (sym e)

  pub high_end : (i : ℕ) → used ≤ i → count high (drop i (confirmed_records used xs)) ≡ 0
  high_end i h = count_end high (confirmed_records used xs) i (omega (arith, many used xs))

module _ (k : Board) (p : Pending → Bool) (used : ℕ) (xs ms : List ℕ) where
  pub new_next : (i : ℕ) (t : Bool) → i < used → used ≤ length ms → t ≡ (eqb (get_or ms i 0) 1 && p (k.table.read (get_or (records k.table.size used xs) i [])))
      → marked_count p (drop i ms) (drop i (pending_records k used xs)) ≡ bit t + marked_count p (drop (i + 1) ms) (drop (i + 1) (pending_records k used xs))
  unfolding pending_records
  new_next i t h l e =
      let left : ℕ = marked_count p (drop (i + 1) ms) (drop (i + 1) (pending_records k used xs)) in
      marked_next p (pending_records k used xs) ms i (k.table.read []) (omega arith) (omega (arith, pending_length k used xs))
      ∙ ap (λ (r : Pending). bit (eqb (get_or ms i 0) 1 && p r) + left) (get_or-map k.table.read (records k.table.size used xs) i [])
      ∙ ap (λ (b : Bool). bit b + left) (sym e)

  pub new_end : (i : ℕ) → used ≤ i → marked_count p (drop i ms) (drop i (pending_records k used xs)) ≡ 0
  new_end i h = marked_end p (pending_records k used xs) ms i (omega (arith, pending_length k used xs))

-- ---- marks beside a table

module _ (read : List ℕ → Pending) (named : (b : List ℕ) → (read b).id ≡ take 32 b) where
  pub marked_is : (mark : Id → Bool) (p : Pending → Bool) (bs : List (List ℕ)) (rest : List ℕ)
      → marked_count p (beside id_of mark bs ++ rest) (map read bs) ≡ count (λ r. mark r.id && p r) (map read bs)
  unfolding marked_count beside count
  marked_is mark p [] rest = refl
  marked_is mark p (b ∷ bs) rest = ap₂ (λ (t : Bool) (n : ℕ). bit (t && p (read b)) + n) (seen (mark (id_of b)) ∙ ap mark (sym (named b))) (marked_is mark p bs rest)
    where
      seen : (t : Bool) → eqb (bit t) 1 ≡ t
      seen true = refl
      seen false = refl
