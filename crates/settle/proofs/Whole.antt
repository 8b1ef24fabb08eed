-- The whole way: copied, sorted, each id once, and each record of the file put where its id stands. A sort loses no id and drops none, so the ids that stand there
-- are those of the file, and what stands with them is replaced. Assumes nothing.
use mathlib.Core.Path.{◌≡◌, refl, sym, ap, ◌∙◌}
use mathlib.Core.Bool.{Bool, true}
use mathlib.Core.List.{List, [], ◌∷◌, ◌++◌, map, append_assoc}
use Prim.Native.Nat.{ℕ, ◌+◌, ◌*◌, ◌-◌, ◌≤◌}
use native.Mathlib.Nat.{mul-le-mul_right, zero-add}
use native.Mathlib.Omega.{arith}
use lib.ListN.{length, take, drop, replicate}
use lib.Seq.{sets, sets-eq, drop_at, drop-drop, length-take-le}
use Rattle.rules.specs.Lists.{any, every}
use Rattle.rules.specs.Ids.{Id, same, rising, placed}
use Rattle.rules.specs.Records.{records, joined, laid, id_of}
use Rattle.rules.proofs.All.{All, none, more}
use Rattle.rules.proofs.Ids.{Up, rising_of}
use Rattle.rules.proofs.Records.{Sized, and_left, and_right, length_records, sized_records, joined_records, length_joined, laid_records, laid_beyond}
use Rattle.format.specs.File.{settled}
use Rattle.format.proofs.Back.{all_imply}
use Rattle.mem.specs.Moves.{zeroed}
use Rattle.table.proofs.Laid.{laid_full, laid_more}
use Rattle.table.proofs.Holding.{Holds, holds_records}
use Rattle.sort.specs.Order.{Shuffled, Ordered, Sorted}
use Rattle.settle.specs.Once.{once, Kept}
use Rattle.settle.proofs.Distinct.{up_once, has_once, sized_once, length_once}
use Rattle.settle.proofs.Settling.{settled_over}
use Rattle.settle.proofs.Own.{owns, shuffled_any, no_other}
use Rattle.settle.proofs.Renewing.{any_ids, placed_ids, placed_long}

-- ---- the same ids, once

abbrev has : Id → List (List ℕ) → Bool
has i rs = any (λ r. same (id_of r) i) rs

every_of : (f : List ℕ → Bool) {rs : List (List ℕ)} → All (λ t. f t ≡ true) rs → every f rs ≡ true
unfolding every
every_of f none = refl
every_of f (more h hs) = rw h (every_of f hs)

module _ (rs qs : List (List ℕ)) (s : Shuffled rs qs) where
  same_ids : (i : Id) → has i (once qs) ≡ has i rs
  same_ids i = has_once i qs ∙ shuffled_any id_of rs qs s i

  -- each id of the file stands there
  all_there : every (λ q. any (λ r. same (id_of r) (id_of q)) (once qs)) rs ≡ true
  all_there = every_of (λ q. has (id_of q) (once qs)) (all_imply (λ t h. same_ids (id_of t) ∙ h) (owns id_of rs))

-- records placed where their ids stand
settled_long : (rs table : List (List ℕ)) → rising (map id_of table) ≡ true → every (λ q. any (λ r. same (id_of r) (id_of q)) table) rs ≡ true → length (settled id_of table rs) ≡ length table
unfolding settled every
settled_long [] table up all = refl
settled_long (q ∷ rs) table up all =
    let there = and_left (any (λ r. same (id_of r) (id_of q)) table) _ all in
    let ids = placed_ids q table up there in
    settled_long rs (placed id_of q table) (rw ids up) (other_table rs table (placed id_of q table) (sym ids) (and_right (any (λ r. same (id_of r) (id_of q)) table) _ all))
    ∙ placed_long q table up there
  where
    other_table : (ts a b : List (List ℕ)) → map id_of a ≡ map id_of b → every (λ x. any (λ r. same (id_of r) (id_of x)) a) ts ≡ true → every (λ x. any (λ r. same (id_of r) (id_of x)) b) ts ≡ true
    other_table [] a b e h = refl
    other_table (t ∷ ts) a b e h =
        let k : has (id_of t) b ≡ true = any_ids (id_of t) b ∙ ap (any (λ j. same j (id_of t))) (sym e) ∙ sym (any_ids (id_of t) a) ∙ and_left (has (id_of t) a) _ h in
        rw k (other_table ts a b e (and_right (has (id_of t) a) _ h))

-- ---- bytes

-- other records in the places of as many
laid_inner : (size k n : ℕ) (ts qs : List (List ℕ)) (xs : List ℕ) → Sized size ts → length ts ≡ k → length qs ≡ k → laid size k qs (laid size n ts xs) ≡ laid size n qs xs
unfolding laid
laid_inner size k n ts qs xs s e f =
    let z : List ℕ = replicate (n * size - k * size) 0 ++ drop (n * size) xs in
    let l : length (joined ts) ≡ k * size = length_joined size ts s ∙ ap (λ (m : ℕ). m * size) e in
    let d : drop (k * size) (joined ts ++ replicate (n * size - k * size) 0 ++ drop (n * size) xs) ≡ z = rw append_assoc (drop_at (joined ts) z (k * size) l) in
    laid_full size k qs (laid size n ts xs) f ∙ rw (e, f, d) (sym (append_assoc (joined qs) (replicate (n * size - k * size) 0) (drop (n * size) xs)))

-- bytes that are the same behind the places are the same under the records
pub laid_over : (size n : ℕ) (qs : List (List ℕ)) (a xs : List ℕ) → drop (n * size) a ≡ drop (n * size) xs → laid size n qs a ≡ laid size n qs xs
unfolding laid
laid_over size n qs a xs e = rw e

module _ (size places n : ℕ) (fit : n ≤ places) where
  short : n * size ≤ places * size
  short = mul-le-mul_right size fit

  -- behind the records, and so behind the places
  pub further : (a xs : List ℕ) → drop (n * size) a ≡ drop (n * size) xs → drop (places * size) a ≡ drop (places * size) xs
  further a xs f =
      let e : n * size + (places * size - n * size) ≡ places * size = omega (arith, short) in
      let cut : (ys : List ℕ) → drop (places * size) ys ≡ drop (places * size - n * size) (drop (n * size) ys) =
      λ ys. sym (drop-drop (places * size - n * size) (n * size) ys ∙ ap (λ (m : ℕ). drop m ys) e) in
      cut a ∙ ap (drop (places * size - n * size)) f ∙ sym (cut xs)

  -- as many records as there were: zeros behind them
  module _ (xs : List ℕ) {qs ts : List (List ℕ)} {a : List ℕ} (h : Holds size n xs qs a) (e : ts ≡ qs) where
    pub all_count : n ≡ length ts
    all_count = sym (ap length e ∙ h.long)

    pub all_bytes : zeroed (n * size) (places * size) a ≡ laid size places ts xs
    all_bytes = ap (zeroed (n * size) (places * size)) h.is ∙ laid_more size n places qs xs h.sized h.long fit ∙ rw e

  -- the file's records are copied
  pub copied : (xs file a : List ℕ) → places * size ≤ length xs → n * size ≤ length file → a ≡ sets xs 0 (take (n * size) file) → Holds size n xs (records size n file) a
  copied xs file a room read e =
      let fs : List (List ℕ) = records size n file in
      let b : List ℕ = take (n * size) file in
      let l : length b ≡ n * size = length-take-le (n * size) file read in
      let s : sets xs 0 b ≡ b ++ drop (n * size) xs = sets-eq b xs 0 (omega (arith, short)) ∙ rw (zero-add, l) in
      record {
        is = e ∙ s ∙ sym (laid_full size n fs xs (length_records size n file) ∙ rw (joined_records size n file));
        sized = sized_records size n file read;
        long = length_records size n file;
        room = omega (arith, short);
      }

  -- they are sorted
  module _ (xs : List ℕ) {fs : List (List ℕ)} {a b : List ℕ} (h : Holds size n xs fs a) (s : Sorted size n a b) where
    pub shuffled : Shuffled fs (records size n b)
    shuffled = rw (holds_records size n xs h) at s.mixed.shuffled

    pub over : (qs : List (List ℕ)) → laid size places qs b ≡ laid size places qs xs
    over qs =
        let f : drop (n * size) a ≡ drop (n * size) xs = ap (drop (n * size)) h.is ∙ laid_beyond size n fs xs h.sized (omega (arith, h.long)) h.room in
        laid_over size places qs b xs (further b xs (s.mixed.beyond ∙ f))

-- each id is kept once
module _ (size places n : ℕ) (xs file : List ℕ) (fit : n ≤ places) (room : places * size ≤ length xs) (shuffled : Shuffled (records size n file) (records size n xs)) (ordered : Ordered (records size n xs))
    (c : List ℕ) (k : ℕ) (t : Kept size n xs c k) where
  abbrev fs : List (List ℕ)
  fs = records size n file

  abbrev table : List (List ℕ)
  table = once (records size n xs)

  up : Up id_of table
  up = up_once ordered

  sized : Sized size table
  sized = sized_once size (records size n xs) (sized_records size n xs (omega (arith, short size places n fit)))

  pub fewer : k ≤ n
  fewer = omega (arith, length_once (records size n xs), t.count, length_records size n xs)

  module _ (d : List ℕ) (e : d ≡ zeroed (k * size) (places * size) c) where
    once_bytes : d ≡ laid size places table xs
    unfolding zeroed laid
    once_bytes = e ∙ rw (t.front, further size places n fit c xs t.beyond, t.count)

    once_records : records size k d ≡ table
    once_records = ap (records size k) once_bytes ∙ ap (λ (m : ℕ). records size m (laid size places table xs)) t.count ∙ laid_records size places table xs sized

    pub once_up : rising (map id_of (records size k d)) ≡ true
    once_up = rw once_records (rising_of id_of up)

    pub once_there : every (λ q. any (λ r. same (id_of r) (id_of q)) (records size k d)) fs ≡ true
    once_there = rw once_records (all_there fs (records size n xs) shuffled)

    once_settled : settled id_of table fs ≡ settled id_of [] fs
    once_settled = settled_over id_of fs up (no_other fs table (same_ids fs (records size n xs) shuffled))

    pub settled_count : k ≡ length (settled id_of [] fs)
    settled_count = t.count ∙ sym (sym (ap length once_settled) ∙ settled_long fs table (rising_of id_of up) (all_there fs (records size n xs) shuffled))

    pub settled_bytes : (z : List ℕ) → z ≡ laid size k (settled id_of (records size k d) fs) d → z ≡ laid size places (settled id_of [] fs) xs
    settled_bytes z q =
        q ∙ rw (once_records, once_settled) (ap (laid size k (settled id_of [] fs)) once_bytes ∙ laid_inner size k places table (settled id_of [] fs) xs sized (sym t.count) (sym settled_count))
