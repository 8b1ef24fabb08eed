-- Success between none and all: every stored count is what the log makes, where confirmed is not above resolved; so it is with the sums at each bucket, and their
-- ratio lies from 0.0 to 1.0. Assumes nothing.
use mathlib.Core.Path.{◌≡◌, refl, sym, ap, ap₂, ◌∙◌, subst}
use mathlib.Core.List.{List, [], ◌∷◌}
use Prim.Native.Nat.{ℕ, zero, suc, ◌+◌, ◌-◌, ◌*◌, ◌≤◌, ◌<◌}
use native.Mathlib.Nat.{le_of_eq, not-suc-le-zero}
use native.Mathlib.Numerals.{add-one}
use native.Mathlib.Omega.{arith}
use borrow.Author.Tests.{ne_eqb}
use lib.Dec.{T}
use lib.ListN.{length, drop, get_or, drop_of_length-le}
use lib.Seq.{drop-cons, get_or-drop}
use lib.Ieee.{Float, binary64, div, le}
use lib.Ieee.Positive.{num, den_pos}
use Rattle.rules.specs.Ladder.{buckets}
use Rattle.rules.specs.Counts.{Counts, columns, nought, cell}
use Rattle.rules.specs.Board.{Board, Lawful}
use Rattle.rules.specs.Estimate.{column_of, column, Sums, add_bucket, sums_down_to, rate_in_column, estimate}
use Rattle.floats.specs.Factor.{Factor}
use Rattle.floats.proofs.Unsigned.{unsigned_one, unsigned_sound, le→cross, add_mono}
use Rattle.floats.proofs.Tame.{nought_tame, add_tame}
use Rattle.floats.proofs.Ratio.{Ratio, ratio}
use Rattle.meaning.specs.Runs.{Log, singly, Held, calls}
use Rattle.meaning.specs.Fates.{Meant, Promise}
use Rattle.meaning.specs.Success.{Between, sums_at, Walk, WalkPromise, RatioWithin, Success, SuccessPromise}
use Rattle.meaning.proofs.Meaning.{promise}
use Rattle.meaning.proofs.Estimates.{low, high}
use Rattle.meaning.proofs.Ordered.{Ordered, counts_ordered}

-- ---- the walk

column_length : (n c : ℕ) (xs : Counts) → length (column n c xs) ≡ n
unfolding column
column_length zero c xs = refl
column_length (suc n) c xs = ap suc (column_length n c (drop columns xs))

column_cell : (n c b : ℕ) (xs : Counts) → b < n → get_or (column n c xs) b nought ≡ cell xs b c
unfolding column
column_cell zero c b xs h = absurd (not-suc-le-zero h)
column_cell (suc n) c zero xs h = let e : c - 1 ≡ 0 * columns + (c - 1) = omega arith in ap (λ (i : ℕ). get_or xs i nought) e
column_cell (suc n) c (suc b) xs h =
    let e : columns + (b * columns + (c - 1)) ≡ suc b * columns + (c - 1) = omega arith in
    column_cell n c b (drop columns xs) (omega arith) ∙ get_or-drop columns xs (b * columns + (c - 1)) nought ∙ ap (λ (i : ℕ). get_or xs i nought) e

column_from : (c b : ℕ) (xs : Counts) → b < buckets → drop b (column buckets c xs) ≡ cell xs b c ∷ drop (suc b) (column buckets c xs)
column_from c b xs h =
    drop-cons (column buckets c xs) b nought (subst (λ (n : ℕ). b < n) (sym (column_length buckets c xs)) h)
    ∙ ap (λ (x : Float). x ∷ drop (suc b) (column buckets c xs)) (column_cell buckets c b xs h)

column_ends : (c : ℕ) (xs : Counts) → drop buckets (column buckets c xs) ≡ []
column_ends c xs = drop_of_length-le (column buckets c xs) (le_of_eq (column_length buckets c xs))

pub walk : (k : Board) → WalkPromise k
unfolding WalkPromise sums_at sums_down_to estimate rate_in_column
walk k target confirmed resolved = let c = column_of k target in record {
  goes_down = λ b h. ap₂ (λ (xs ys : List Float). sums_down_to b xs ys) (column_from c b confirmed h) (column_from c b resolved h);
  begins = ap₂ (λ (xs ys : List Float). sums_down_to buckets xs ys) (column_ends c confirmed) (column_ends c resolved);
  ends = λ h. rw (ne_eqb target 0 (λ z. omega arith));
}

-- ---- the sums, and their ratio

abbrev In-order : ℕ → Sums → Type 0
In-order n s = Ordered n s.confirmed s.resolved

bucket_more : (n b : ℕ) (x y : Float) (s : Sums) → n < buckets → Ordered 1 x y → In-order n s → In-order (suc n) (add_bucket b x y s)
unfolding add_bucket
bucket_more n b x y s h q i = subst (λ (m : ℕ). In-order m (add_bucket b x y s)) (add-one n) (record {
  confirmed = add_tame (omega arith) i.confirmed q.confirmed;
  resolved = add_tame (omega arith) i.resolved q.resolved;
  order = add_mono i.confirmed.no_sign q.confirmed.no_sign i.resolved.no_sign q.resolved.no_sign i.order q.order;
})

module _ (k : Board) (target : ℕ) (confirmed resolved : Counts)
    (in_order : (b : ℕ) → b < buckets → Ordered 1 (cell confirmed b (column_of k target)) (cell resolved b (column_of k target))) where
  abbrev at : ℕ → Sums
  at b = sums_at k target b confirmed resolved

  way : Walk k target confirmed resolved
  unfolding WalkPromise
  way = walk k target confirmed resolved

  -- n buckets have been added
  sums_ordered : (n b : ℕ) → n + b ≡ buckets → In-order n (at b)
  unfolding le
  sums_ordered zero b e =
      let top : b ≡ buckets = omega arith in
      subst (In-order 0) (sym (ap at top ∙ way.begins)) (record { confirmed = nought_tame 0; resolved = nought_tame 0; order = tt })
  sums_ordered (suc n) b e = subst (In-order (suc n)) (sym (way.goes_down b (omega arith))) (bucket_more n b _ _ (at (suc b)) (omega arith) (in_order b (omega arith)) (sums_ordered n (suc b) (omega arith)))

  ratio_within : (b : ℕ) → b < buckets → RatioWithin (at b)
  unfolding RatioWithin
  ratio_within b h t =
      let q : In-order (buckets - b) (at b) = sums_ordered (buckets - b) b (omega arith) in
      let above : 0 < num (at b).resolved = omega (arith, le→cross unsigned_one q.resolved.no_sign t, den_pos (at b).resolved) in
      let r : Ratio (div binary64 (at b).confirmed (at b).resolved) = ratio q.confirmed.no_sign q.resolved.no_sign above q.order in
      (r.least, r.most)

-- ---- the promise

between : (x y : Float) → Ordered 1 x y → Between x y
between x y q = record {
  confirmed_sound = subst T (sym (unsigned_sound q.confirmed.no_sign)) tt;
  resolved_sound = subst T (sym (unsigned_sound q.resolved.no_sign)) tt;
  order = q.order;
}

module _ (k : Board) (law : Lawful k) (d : Factor k.decay) (l : Log) (x : Held) (m : Meant k l x) where
  cells : (b c : ℕ) → b < buckets → 1 ≤ c → c ≤ columns → Ordered 1 (cell x.memory.confirmed b c) (cell x.memory.resolved b c)
  cells b c h least most = rw (m.confirmed_is b c h least most, m.resolved_is b c h least most) (counts_ordered k d l b c)

  -- of whatever means what its log makes
  pub success : Success k x.memory.confirmed x.memory.resolved
  success = record {
    counts = λ b c h least most. between (cell x.memory.confirmed b c) (cell x.memory.resolved b c) (cells b c h least most);
    ratios = λ target b asked h.
        ratio_within k target x.memory.confirmed x.memory.resolved (λ i g. cells i (column_of k target) g (low k law.wide target asked) (high k law.wide target asked)) b h;
  }

pub success_promise : (k : Board) → Lawful k → Factor k.decay → SuccessPromise k
unfolding SuccessPromise Promise
success_promise k law d m e cs t r = success k law d (singly (calls k m cs).log) (calls k m cs) (promise k law m e cs t r)
