-- Whether the fields of records are in range, as a loop from the front finds out; and the test of a table, in the order of the code. Assumes nothing.
use mathlib.Core.Path.{◌≡◌, refl, sym, ap, ◌∙◌}
use mathlib.Core.Bool.{Bool, true, false, ◌&&◌}
use mathlib.Core.List.{List, [], map}
use Prim.Native.Nat.{ℕ, ◌+◌, ◌*◌, ◌≤◌, ◌<◌}
use native.Mathlib.Omega.{arith}
use borrow.Author.Tests.{leb-true, le-leb, lt-leb}
use lib.Dec.{leb}
use Rattle.std.specs.List.{range_with_len}
use Rattle.std.proofs.lemmas.List.FromFn.{fill_by_all}
use lib.ListN.{length, get_or, drop}
use lib.Seq.{slice}
use Rattle.rules.specs.Lists.{every}
use Rattle.rules.specs.Ids.{rising}
use Rattle.rules.specs.Records.{records, id_of, capacity, all_zero, sound_table}
use Rattle.rules.specs.Ladder.{buckets, last_bucket}
use Rattle.rules.specs.Counts.{columns}
use Rattle.rules.specs.Board.{Pending, in_range, pending_of}
use Rattle.rules.proofs.Records.{and_left, length_records}
use Rattle.lists.proofs.Lists.{and_true, every_map, every_next, every_end}
use Rattle.table.proofs.Records.{cap_room}

-- the rules' test of one record, where its bucket is none, and where it is one
pub no_bucket : (q : Pending) → buckets ≤ q.bucket → in_range q ≡ false
unfolding in_range
no_bucket q h = rw (lt-leb q.bucket last_bucket (omega arith))

pub a_bucket : (q : Pending) → q.bucket < buckets → in_range q ≡ leb q.through columns
unfolding in_range
a_bucket q h = rw (le-leb q.bucket last_bucket (omega arith))

-- each of these records is in range
abbrev pub fine : List (List ℕ) → Bool
fine rs = every (λ b. in_range (pending_of b)) rs

pub fine_is : (rs : List (List ℕ)) → every in_range (map pending_of rs) ≡ fine rs
fine_is rs = every_map pending_of in_range rs

module _ (size used : ℕ) (xs : List ℕ) where
  -- t is what has been found of record i
  pub fine_next : (i : ℕ) (t : Bool) → i < used → t ≡ in_range (pending_of (get_or (records size used xs) i []))
      → fine (drop i (records size used xs)) ≡ t && fine (drop (i + 1) (records size used xs))
  fine_next i t h e = every_next (λ b. in_range (pending_of b)) (records size used xs) i [] (rw length_records h) ∙ rw e

  pub fine_end : (i : ℕ) → used ≤ i → fine (drop i (records size used xs)) ≡ true
  fine_end i h = every_end (λ b. in_range (pending_of b)) (records size used xs) i (rw length_records h)

-- the same by the records' numbers
pub fine_by_number : (size used : ℕ) (xs : List ℕ) → every (λ i. in_range (pending_of (get_or (records size used xs) i []))) (range_with_len 0 used) ≡ every in_range (map pending_of (records size used xs))
fine_by_number size used xs =
    let rs = records size used xs in
    sym (every_map (λ i. get_or rs i []) (λ b. in_range (pending_of b)) (range_with_len 0 used))
    ∙ ap fine (sym (fill_by_all (λ i. get_or rs i []) rs used [] (length_records size used xs) (λ k h. refl))) ∙ sym (fine_is rs)

-- ---- a table: room and zeros first, then its ids

-- there is room for the records, with zeros behind them up to the capacity
abbrev pub roomy : ℕ → ℕ → ℕ → List ℕ → Bool
roomy size most used xs = leb used (capacity size most xs) && all_zero (slice (used * size) (capacity size most xs * size) xs)

last_first : (a b c : Bool) → a && (b && c) ≡ (a && c) && b
last_first true true c = sym (and_true c)
last_first true false true = refl
last_first true false false = refl
last_first false b c = refl

module _ (size most used : ℕ) (xs : List ℕ) where
  pub table_is : sound_table size most used xs ≡ roomy size most used xs && rising (map id_of (records size used xs))
  unfolding sound_table
  table_is = last_first (leb used (capacity size most xs)) (rising (map id_of (records size used xs))) (all_zero (slice (used * size) (capacity size most xs * size) xs))

  pub roomy_told : roomy size most used xs ≡ true → used * size ≤ length xs
  roomy_told e = let r = cap_room size most used _ xs refl (leb-true _ _ (and_left (leb used (capacity size most xs)) _ e)) in omega arith
