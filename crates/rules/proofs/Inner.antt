-- Memory that is cut off at its capacities: every test of it comes out the same, it holds the same estimator, and what is laid into it stands before the rest.
-- Assumes nothing.
use mathlib.Core.Path.{◌≡◌, refl, sym, ap, ap₂, ◌∙◌}
use mathlib.Core.Bool.{Bool, true, false, ◌&&◌, cond}
use mathlib.Core.List.{List, ◌∷◌, ◌++◌, map, append-nil}
use Rattle.std.specs.Prelude.{None}
use Prim.Native.Nat.{ℕ, zero, suc, ◌+◌, ◌-◌, ◌*◌, ◌/◌, min, ◌≤◌, ◌<◌}
use native.Mathlib.Nat.{suc-mul, le_refl, le_trans, min-le_left, min-le_right, min-eq_left, mul-div_cancel, div-zero, zero-lt-suc, mul-le-mul_right, div-lt_iff_lt-mul}
use native.Mathlib.Omega.{arith}
use lib.Dec.{leb, eqb}
use lib.ListN.{length, take, drop, replicate, length-take, length-drop}
use lib.Seq.{slice, slice_empty, take-add, take-take, drop_at, length-take-le, get_or-take}
use lib.Ieee.{Float}
use borrow.Author.Tests.{leb-true, leb-false, le-leb, lt-leb}
use Rattle.kinds.specs.declared.State.{State}
use Rattle.rules.specs.Lists.{every}
use Rattle.rules.specs.Ids.{rising}
use Rattle.rules.specs.Ladder.{buckets}
use Rattle.rules.specs.Counts.{columns, nought, places_of_counts, sound_count}
use Rattle.rules.specs.Board.{Board, Pending, in_range, confirmed_size, confirmed_bytes, pending_most, confirmed_most}
use Rattle.rules.specs.Records.{records, joined, id_of, capacity, all_zero, sound_table, laid}
use Rattle.rules.specs.Estimator.{Estimator}
use Rattle.rules.specs.Estimate.{column_of, column, sums_down_to, rate_in_column, estimate}
use Rattle.rules.specs.Memory.{Lent, enough, pending_records, confirmed_records, sound_counts, sound_pending, sound_confirmed, sound, view, lay_pending, lay_confirmed, lay}
use Rattle.rules.specs.Beyond.{pending_room, of_lent}
use Rattle.rules.proofs.Records.{and_left, and_right, capacity_room, used_within}
use Rattle.rules.proofs.Memory.{pending_within}

-- ---- a table, over the record size

-- the rest of a part
drop_inner : {A : Type 0} (m n : ℕ) (xs : List A) → m ≤ n → n ≤ length xs → drop m (take n xs) ≡ take (n - m) (drop m xs)
drop_inner m n xs h k =
    let e : n ≡ m + (n - m) = omega arith in
    ap (λ (j : ℕ). drop m (take j xs)) e ∙ ap (drop m) (take-add m (n - m) xs) ∙ drop_at (take m xs) (take (n - m) (drop m xs)) m (length-take-le m xs (le_trans h k))

records_inner : (size n N : ℕ) (xs : List ℕ) → n * size ≤ N → N ≤ length xs → records size n (take N xs) ≡ records size n xs
unfolding records
records_inner size zero N xs h k = refl
records_inner size (suc n) N xs h k =
    let m : n * size + size ≤ N = rw suc-mul at h in
    ap₂ {C = List (List ℕ)} (λ r rs. r ∷ rs) (take-take size N xs (omega arith))
    (ap (records size n) (drop_inner size N xs (omega arith) k) ∙ records_inner size n (N - size) (drop size xs) (omega arith) (rw length-drop (omega arith)))

module _ (size most : ℕ) (xs : List ℕ) where
  -- the bytes within the capacity
  abbrev room : ℕ
  room = capacity size most xs * size

  abbrev ins : List ℕ
  ins = take room xs

  times_over : (s n : ℕ) → n ≤ (length xs / s) → n * s / s ≡ n
  times_over zero n h = let z : n ≡ 0 = omega (arith, div-zero (length xs)) in rw z
  times_over (suc s) n h = mul-div_cancel n (zero-lt-suc s)

  -- as many places
  pub same_places : capacity size most ins ≡ capacity size most xs
  same_places =
      ap (λ (n : ℕ). min (n / size) most) (length-take-le room xs (capacity_room size most xs))
      ∙ ap (λ (n : ℕ). min n most) (times_over size (capacity size most xs) (min-le_left (length xs / size) most))
      ∙ min-eq_left (min-le_right (length xs / size) most)

  -- the same used records, where they are no more than that
  same_records : (used : ℕ) → used ≤ capacity size most xs → records size used ins ≡ records size used xs
  same_records used h = records_inner size used room xs (mul-le-mul_right size h) (capacity_room size most xs)

  -- judged the same
  same_sound : (used : ℕ) → sound_table size most used ins ≡ sound_table size most used xs
  unfolding sound_table
  same_sound used =
      ap (λ (n : ℕ). leb used n && (rising (map id_of (records size used ins)) && all_zero (slice (used * size) (n * size) ins))) same_places
      ∙ go (leb used (capacity size most xs)) refl
    where
      go : (b : Bool) → leb used (capacity size most xs) ≡ b
          → (b && (rising (map id_of (records size used ins)) && all_zero (slice (used * size) room ins))) ≡ (b && (rising (map id_of (records size used xs)) && all_zero (slice (used * size) room xs)))
      go true e =
          ap₂ (λ (rs : List (List ℕ)) (ys : List ℕ). rising (map id_of rs) && all_zero (drop (used * size) ys)) (same_records used (leb-true used (capacity size most xs) e)) (take-take room room xs (le_refl room))
      go false e = refl

  -- laid before the rest
  same_laid : (rs : List (List ℕ)) → laid size (capacity size most xs) rs xs ≡ laid size (capacity size most ins) rs ins ++ drop room xs
  unfolding laid
  same_laid rs =
      let front : List ℕ = joined rs ++ replicate (room - length rs * size) 0 in
      sym (ap (λ (n : ℕ). joined rs ++ replicate (n * size - length rs * size) 0 ++ drop (n * size) ins ++ drop room xs) same_places
      ∙ ap (λ (ys : List ℕ). front ++ ys ++ drop room xs) (slice_empty room xs)
      ∙ ap (λ (ys : List ℕ). ys ++ drop room xs) (append-nil front))

-- ---- counts

pub same_enough : (xs : List Float) → enough (take places_of_counts xs) ≡ enough xs
same_enough xs = ap (leb places_of_counts) (length-take places_of_counts xs) ∙ go (leb places_of_counts (length xs)) refl
  where
    go : (b : Bool) → leb places_of_counts (length xs) ≡ b → leb places_of_counts (min places_of_counts (length xs)) ≡ b
    go true e = le-leb places_of_counts (min places_of_counts (length xs)) (omega (arith, leb-true places_of_counts (length xs) e))
    go false e = lt-leb places_of_counts (min places_of_counts (length xs)) (omega (arith, leb-false places_of_counts (length xs) e))

-- what stands within is all of itself
all_within : (xs : List Float) → take places_of_counts (take places_of_counts xs) ≡ take places_of_counts xs
all_within xs = take-take places_of_counts places_of_counts xs (le_refl places_of_counts)

pub same_counts : (xs : List Float) → sound_counts (take places_of_counts xs) ≡ sound_counts xs
unfolding sound_counts
same_counts xs = ap₂ (λ (b : Bool) (ys : List Float). b && every sound_count ys) (same_enough xs) (all_within xs)

-- sound ones are long enough
pub long_enough : (xs : List Float) → sound_counts xs ≡ true → places_of_counts ≤ length xs
unfolding sound_counts
long_enough xs h = leb-true places_of_counts (length xs) (and_left (enough xs) _ h)

-- ---- the estimate

-- what is less than a width above 25 widths has at most 25 of them
widths_in : (w x : ℕ) → x ≤ w * columns + (w - 1) → x / w ≤ columns
widths_in zero x h = omega (arith, div-zero x)
widths_in (suc w) x h =
    let below : x / suc w < 26 = (div-lt_iff_lt-mul (zero-lt-suc w)).1 (omega arith) in
    omega arith

-- every column is one of the 25
column_within : (k : Board) (target : ℕ) → column_of k target ≤ columns
unfolding column_of
column_within k target = widths_in k.width _ (omega (arith, min-le_right target (k.width * columns)))

column_inner : (n c N : ℕ) (xs : List Float) → c ≤ columns → n * columns ≤ N → N ≤ length xs → column n c (take N xs) ≡ column n c xs
unfolding column
column_inner zero c N xs h m k = refl
column_inner (suc n) c N xs h m k =
    let e : n * columns + columns ≤ N = rw suc-mul at m in
    ap₂ {C = List Float} (λ x ys. x ∷ ys) (get_or-take N xs (c - 1) nought (omega arith))
    (ap (column n c) (drop_inner columns N xs (omega arith) k) ∙ column_inner n c (N - columns) (drop columns xs) h (omega arith) (rw length-drop (omega arith)))

-- both slices are long enough
pub same_estimate : (k : Board) (target : ℕ) (xs ys : List Float) → places_of_counts ≤ length xs → places_of_counts ≤ length ys
    → estimate k target (take places_of_counts xs) (take places_of_counts ys) ≡ estimate k target xs ys
unfolding estimate rate_in_column
same_estimate k target xs ys h g =
    let c = column_of k target in
    let w = column_within k target in
    ap₂ (λ (cs rs : List Float). cond (eqb target 0) None (sums_down_to 0 cs rs).rate) (column_inner buckets c places_of_counts xs w (omega arith) h) (column_inner buckets c places_of_counts ys w (omega arith) g)

-- ---- the pending table, and the confirmed table

module _ (k : Board) (xs : List ℕ) where
  -- the pending table's bytes within its capacity
  abbrev pins : List ℕ
  pins = take (pending_room k xs) xs

  pub same_pending : (used : ℕ) → sound_pending k used xs ≡ true → pending_records k used pins ≡ pending_records k used xs
  unfolding pending_records
  same_pending used h = ap (map k.table.read) (same_records k.table.size pending_most xs used (pending_within k used xs h))

  pub same_sound_pending : (used : ℕ) → sound_pending k used pins ≡ sound_pending k used xs
  unfolding sound_pending pending_records
  same_sound_pending used =
      ap (λ (b : Bool). b && every in_range (map k.table.read (records size used pins))) (same_sound size pending_most xs used) ∙ go (sound_table size pending_most used xs) refl
    where
      size : ℕ
      size = k.table.size

      go : (b : Bool) → sound_table size pending_most used xs ≡ b
          → (b && every in_range (map k.table.read (records size used pins))) ≡ (b && every in_range (map k.table.read (records size used xs)))
      go true e = ap (λ (rs : List (List ℕ)). every in_range (map k.table.read rs)) (same_records size pending_most xs used (used_within size pending_most used xs e))
      go false e = refl

  pub same_lay_pending : (rs : List Pending) → lay_pending k rs xs ≡ lay_pending k rs pins ++ drop (pending_room k xs) xs
  unfolding lay_pending
  same_lay_pending rs = same_laid k.table.size pending_most xs (map k.table.write rs)

-- ---- the whole memory

module _ (k : Board) (l : Lent) where
  -- what stands within
  abbrev within : Lent
  within = (of_lent k).inner l

  pub same_all : (s : State) → sound k s within ≡ sound k s l
  unfolding sound sound_confirmed
  same_all s = rw (same_counts l.confirmed, same_counts l.resolved, same_sound_pending k l.pending s.pending, same_sound confirmed_size confirmed_most l.recent s.recent)

  pub same_view : (s : State) → sound k s l ≡ true → view k s within ≡ view k s l
  unfolding sound sound_confirmed view confirmed_records
  same_view s h =
      let tables = and_right (sound_counts l.resolved) _ (and_right (sound_counts l.confirmed) _ h) in
      let p = and_left (sound_pending k s.pending l.pending) _ tables in
      let r = and_right (sound_pending k s.pending l.pending) _ tables in
      rw (
        same_pending k l.pending s.pending p,
        same_records confirmed_size confirmed_most l.recent s.recent (used_within confirmed_size confirmed_most s.recent l.recent r),
        all_within l.confirmed,
        all_within l.resolved,
      )

  -- a list, and nothing of what stands within behind it
  behind : (xs ys : List Float) → xs ++ drop places_of_counts ys ≡ xs ++ drop places_of_counts (take places_of_counts ys) ++ drop places_of_counts ys
  behind xs ys = sym (ap (λ (zs : List Float). xs ++ zs ++ drop places_of_counts ys) (slice_empty places_of_counts ys) ∙ ap (λ (zs : List Float). zs ++ drop places_of_counts ys) (append-nil xs))

  pub same_lay : (e : Estimator) → lay k e l ≡ (of_lent k).before (lay k e within) ((of_lent k).beyond l)
  unfolding lay lay_confirmed
  same_lay e = rw (same_lay_pending k l.pending e.pending, same_laid confirmed_size confirmed_most l.recent (map confirmed_bytes e.recent), behind e.confirmed l.confirmed, behind e.resolved l.resolved)
