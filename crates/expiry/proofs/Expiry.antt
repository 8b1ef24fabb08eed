-- Expiry, record after record, and what it does to the 3,550 counts and to what is lent beyond them: `gain` looks at one bucket only, and every bucket is
-- below 142. Assumes nothing.
use mathlib.Core.Path.{◌≡◌, refl, sym, ap, ◌∙◌}
use mathlib.Core.Bool.{Bool, ◌&&◌}
use mathlib.Core.List.{List, [], ◌∷◌, ◌++◌}
use Prim.Native.Nat.{ℕ, suc, ◌+◌, ◌≤◌, ◌<◌, zero-le}
use native.Mathlib.Numerals.{add-one}
use native.Mathlib.Omega.{arith}
use lib.Dec.{leb, ltb}
use lib.ListN.{length, take, drop, get_or, length-append, take-append-drop, drop_of_length-le, get_or-map}
use lib.Seq.{drop-cons, take_at, drop_at, length-take-le}
use Rattle.rules.specs.Ladder.{buckets}
use Rattle.rules.specs.Board.{Board, Pending}
use Rattle.rules.specs.Counts.{Counts, places_of_counts, gain}
use Rattle.rules.specs.Records.{records}
use Rattle.rules.specs.Estimator.{outwaited, expire_targets}
use Rattle.rules.specs.Memory.{pending_records}
use Rattle.rules.proofs.All.{All, none, more, all_at}
use Rattle.rules.proofs.Memory.{pending_length}
use Rattle.rules.proofs.Well.{WellPending, length_gain}
use Rattle.counts.proofs.Gain.{gain_first}

-- ---- pending records by their number

module _ (k : Board) (used : ℕ) (xs : List ℕ) where
  number : (i : ℕ) → get_or (pending_records k used xs) i (k.table.read []) ≡ k.table.read (get_or (records k.table.size used xs) i [])
  unfolding pending_records
  number i = get_or-map k.table.read (records k.table.size used xs) i []

  pub bucket_at : All WellPending (pending_records k used xs) → (i : ℕ) → i < used → (k.table.read (get_or (records k.table.size used xs) i [])).bucket < buckets
  bucket_at w i h =
      let n = pending_length k used xs in
      let b = rw (number i) at (all_at i (k.table.read []) w (omega arith)).bucket in
      omega arith

-- counting from the record's own numbers
pub one_expired : (k : Board) (h : ℕ) (r : Pending) (b t o : ℕ) (xs ys : Counts) → b ≡ r.bucket → t ≡ r.through → o ≡ outwaited k h r
    → ys ≡ gain b (λ c. ltb t c && leb c o) xs → ys ≡ expire_targets k h (r ∷ []) xs
unfolding expire_targets
one_expired k h r b t o xs ys p q s e = e ∙ rw (p, q, s)

-- ---- the loop: what is left, from here, is the whole

pub record Going (k : Board) (h used : ℕ) (xs : List ℕ) (counts₀ counts : Counts) (i : ℕ) : Type 0 where
  pub within : i ≤ used
  pub long : length counts ≡ length counts₀
  pub left : expire_targets k h (drop i (pending_records k used xs)) counts ≡ expire_targets k h (pending_records k used xs) counts₀

module _ (k : Board) (h used : ℕ) (xs : List ℕ) where
  pub start : (cs : Counts) → Going k h used xs cs cs 0
  start cs = record { within = zero-le; long = refl; left = refl }

  pub next : {cs ds es : Counts} {i : ℕ} → Going k h used xs cs ds i → i < used → length es ≡ length ds
      → es ≡ expire_targets k h (k.table.read (get_or (records k.table.size used xs) i []) ∷ []) ds → Going k h used xs cs es (i + 1)
  unfolding expire_targets
  next {cs} {ds} {es} {i} g m l e =
      let n = pending_length k used xs in
      let rs : List Pending = pending_records k used xs in
      let d : drop i rs ≡ k.table.read (get_or (records k.table.size used xs) i []) ∷ drop (suc i) rs =
      drop-cons rs i (k.table.read []) (omega arith) ∙ ap (λ (r : Pending). r ∷ drop (suc i) rs) (number k used xs i) in
      record {
        within = omega arith;
        long = l ∙ g.long;
        left = rw (add-one i, e) (rw d at g.left);
      }

  pub stop : {cs ds : Counts} {i : ℕ} → Going k h used xs cs ds i → used ≤ i → ds ≡ expire_targets k h (pending_records k used xs) cs
  unfolding expire_targets
  stop {cs} {ds} {i} g m =
      let n = pending_length k used xs in
      rw (drop_of_length-le (pending_records k used xs) {i = i} (omega arith)) at g.left

-- ---- only the 3,550 counts gain; anything lent beyond is as it was

module _ (k : Board) (h : ℕ) where
  beyond : {rs : List Pending} → All WellPending rs → (xs ys : Counts) → length xs ≡ places_of_counts → expire_targets k h rs (xs ++ ys) ≡ expire_targets k h rs xs ++ ys
  unfolding expire_targets
  beyond none xs ys n = refl
  beyond (more {a = r} {l = rs} w ws) xs ys n =
      let p : ℕ → Bool = λ c. ltb r.through c && leb c (outwaited k h r) in
      let one : gain r.bucket p (xs ++ ys) ≡ gain r.bucket p xs ++ ys =
      gain_first r.bucket p (xs ++ ys) (omega (arith, w.bucket)) (omega (arith, length-append xs ys))
      ∙ rw (take_at xs ys places_of_counts n, drop_at xs ys places_of_counts n) in
      ap (expire_targets k h rs) one ∙ beyond ws (gain r.bucket p xs) ys (length_gain r.bucket p xs ∙ n)

  pub expire_first : {rs : List Pending} → All WellPending rs → (xs : Counts) → places_of_counts ≤ length xs
      → expire_targets k h rs xs ≡ expire_targets k h rs (take places_of_counts xs) ++ drop places_of_counts xs
  expire_first {rs} w xs n =
      ap (expire_targets k h rs) (sym (take-append-drop places_of_counts xs))
      ∙ beyond w (take places_of_counts xs) (drop places_of_counts xs) (length-take-le places_of_counts xs n)
