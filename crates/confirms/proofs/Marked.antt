-- The marks of a list pick the listed pending records, and leave the others; and how many a mark picks, counted in the marks. Assumes nothing.
use mathlib.Core.Path.{◌≡◌, refl, sym, ap, ap₂, ◌∙◌}
use mathlib.Core.Bool.{Bool, true, false, cond}
use mathlib.Core.List.{List, [], ◌∷◌, ◌++◌, map}
use Prim.Native.Nat.{ℕ, ◌+◌, ◌≤◌}
use native.Mathlib.Nat.{not-suc-le-zero, le_of_suc-le-suc}
use native.Mathlib.Omega.{arith}
use lib.Dec.{eqb}
use lib.ListN.{length, take, length-map}
use lib.Seq.{take_at}
use Rattle.rules.specs.Lists.{bit}
use Rattle.rules.specs.Ids.{Id}
use Rattle.rules.specs.Records.{records, id_of}
use Rattle.rules.specs.Board.{Board, Lawful, Pending}
use Rattle.rules.specs.Memory.{pending_records}
use Rattle.batch.specs.Batch.{marked, unmarked}
use Rattle.batch.specs.Picked.{picked}
use Rattle.batch.proofs.Picked.{picked_keep, picked_others, picked_take}
use Rattle.marks.specs.Marks.{beside}
use Rattle.std.specs.Prelude.{count_by}
use Rattle.std.proofs.lemmas.List.Sums.{sum_by-cons}

module _ (k : Board) (law : Lawful k) (mark : Id → Bool) where
  -- a mark by the bytes is one by the record
  by_record : (bs : List (List ℕ)) → beside id_of mark bs ≡ map (λ r. bit (mark r.id)) (map k.table.read bs)
  unfolding beside
  by_record [] = refl
  by_record (b ∷ bs) = ap₂ (λ (i : Id) (l : List ℕ). bit (mark i) ∷ l) (sym (law.named b)) (by_record bs)

  -- the code has a record's size as a number n that it has asked for
  module _ (n used : ℕ) (xs ms rest : List ℕ) (size : n ≡ k.table.size) (is : ms ≡ beside id_of mark (records n used xs) ++ rest) where
    abbrev rs : List Pending
    rs = pending_records k used xs

    by_marks : (w : ℕ) → picked w ms rs ≡ picked w (map (λ r. bit (mark r.id)) rs) rs
    unfolding pending_records
    by_marks w =
        let bits : List ℕ = map (λ (r : Pending). bit (mark r.id)) rs in
        let e : ms ≡ bits ++ rest = is ∙ ap (λ (z : ℕ). beside id_of mark (records z used xs) ++ rest) size ∙ ap (λ (l : List ℕ). l ++ rest) (by_record (records k.table.size used xs)) in
        sym (picked_take w (length rs) ms rs (omega arith)) ∙ ap (λ (l : List ℕ). picked w l rs) (ap (take (length rs)) e ∙ take_at bits rest (length rs) (length-map rs _))

    pub picks_marked : picked 1 ms rs ≡ marked mark rs
    unfolding marked
    picks_marked = by_marks 1 ∙ picked_keep (λ r. mark r.id) rs

    pub picks_others : picked 0 ms rs ≡ unmarked mark rs
    unfolding unmarked
    picks_others = by_marks 0 ∙ picked_others (λ r. mark r.id) rs

-- as many as there are such marks
pub picked_count : {A : Type 0} (w : ℕ) (ms : List ℕ) (rs : List A) → length rs ≤ length ms → length (picked w ms rs) ≡ count_by (λ m. eqb m w) (take (length rs) ms)
unfolding picked
picked_count w [] [] h = refl
picked_count w [] (r ∷ rs) h = absurd (not-suc-le-zero h)
picked_count w (m ∷ ms) [] h = refl
picked_count w (m ∷ ms) (r ∷ rs) h = go (eqb m w) (picked_count w ms rs (le_of_suc-le-suc h)) ∙ sym (sum_by-cons (λ m. cond (eqb m w) 1 0) m (take (length rs) ms))
  where
    go : (t : Bool) → length (picked w ms rs) ≡ count_by (λ m. eqb m w) (take (length rs) ms) → length (cond t (r ∷ picked w ms rs) (picked w ms rs)) ≡ cond t 1 0 + count_by (λ m. eqb m w) (take (length rs) ms)
    go true e = omega arith
    go false e = omega arith
