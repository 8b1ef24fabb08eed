-- The scan, one bucket further down. Assumes nothing.
use mathlib.Core.Path.{◌≡◌, refl, sym, ap, ◌∙◌}
use mathlib.Core.Bool.{true, false}
use mathlib.Core.List.{List}
use Rattle.std.specs.Prelude.{None, Some, option_map}
use Prim.Native.Nat.{ℕ, zero, suc, ◌+◌, ◌-◌, ◌*◌, ◌≤◌, ◌<◌}
use native.Mathlib.Nat.{zero-add, le_of_suc-le-suc, not-suc-le-zero}
use native.Mathlib.Omega.{arith}
use lib.ListN.{length, drop, get_or, drop_of_length-le}
use lib.Seq.{drop-cons, get_or-drop}
use lib.Ieee.{Float, nan, binary64, of_bits, add}
use Rattle.rules.specs.Ladder.{ladder, buckets}
use Rattle.rules.specs.Counts.{nought}
use Rattle.rules.specs.Estimate.{Sums, passes, column, add_bucket, sums_down_to, rate_in_column}
use Rattle.floats.proofs.Bits.{zero_is}
use Rattle.lists.proofs.Lists.{get_or_within}
use Rattle.scan.specs.declared.Scan.{Scan}
use Rattle.scan.specs.Sums.{shown}

length_column : (n c : ℕ) (xs : List Float) → length (column n c xs) ≡ n
unfolding column
length_column zero c xs = refl
length_column (suc n) c xs = ap suc (length_column n c (drop 25 xs))

get_or_column : (n c : ℕ) (xs : List Float) (k : ℕ) → k < n → get_or (column n c xs) k nought ≡ get_or xs (k * 25 + (c - 1)) nought
unfolding column
get_or_column zero c xs k h = absurd (not-suc-le-zero h)
get_or_column (suc n) c xs zero h = rw (zero-add (c - 1))
get_or_column (suc n) c xs (suc k) h =
    let e : 25 + (k * 25 + (c - 1)) ≡ suc k * 25 + (c - 1) = omega arith in
    get_or_column n c (drop 25 xs) k (le_of_suc-le-suc h) ∙ get_or-drop 25 xs (k * 25 + (c - 1)) nought ∙ ap (λ (j : ℕ). get_or xs j nought) e

-- the rules' sums from bucket b on
abbrev pub sums_of : ℕ → List Float → List Float → ℕ → Sums
sums_of c cs rs b = sums_down_to b (drop b (column buckets c cs)) (drop b (column buckets c rs))

sums_none : (c : ℕ) (cs rs : List Float) → sums_of c cs rs 142 ≡ record { confirmed = nought; resolved = nought; rate = None }
unfolding sums_down_to
sums_none c cs rs = rw (drop_of_length-le (column 142 c cs) {i = 142} (omega (arith, length_column 142 c cs)))

sums_more : (c : ℕ) (cs rs : List Float) (b : ℕ) → b < 142
    → sums_of c cs rs b ≡ add_bucket b (get_or cs (b * 25 + (c - 1)) nought) (get_or rs (b * 25 + (c - 1)) nought) (sums_of c cs rs (suc b))
unfolding sums_down_to
sums_more c cs rs b h =
    let lc = length_column 142 c cs in
    let lr = length_column 142 c rs in
    rw (drop-cons (column 142 c cs) b nought (omega arith), drop-cons (column 142 c rs) b nought (omega arith), get_or_column 142 c cs b h, get_or_column 142 c rs b h)

-- before the first bucket
pub shown_none : (c : ℕ) (cs rs : List Float) → shown (record { confirmed = of_bits binary64 0; resolved = of_bits binary64 0; best = None }) ≡ sums_of c cs rs 142
unfolding shown
shown_none c cs rs = rw zero_is (sym (sums_none c cs rs))

-- one bucket more, whose sums pass or do not
module _ (b : ℕ) (x y : Float) (s : Scan) where
  pub shown_passing : passes (add binary64 s.confirmed x) (add binary64 s.resolved y) ≡ true
      → shown (record { confirmed = add binary64 s.confirmed x; resolved = add binary64 s.resolved y; best = Some b }) ≡ add_bucket b x y (shown s)
  unfolding shown add_bucket
  shown_passing p = rw p

  pub shown_failing : passes (add binary64 s.confirmed x) (add binary64 s.resolved y) ≡ false
      → shown (record { confirmed = add binary64 s.confirmed x; resolved = add binary64 s.resolved y; best = s.best }) ≡ add_bucket b x y (shown s)
  unfolding shown add_bucket
  shown_failing p = rw p

-- a turn of the loop
pub shown_turn : (c : ℕ) (cs rs : List Float) (n : ℕ) (s t : Scan) → 0 < n → n ≤ 142 → c ≤ 25 → 0 < c → 3550 ≤ length cs → 3550 ≤ length rs
    → shown s ≡ sums_of c cs rs n
    → shown t ≡ add_bucket (n - 1) (get_or cs ((n - 1) * 25 + (c - 1)) nan) (get_or rs ((n - 1) * 25 + (c - 1)) nan) (shown s)
    → shown t ≡ sums_of c cs rs (n - 1)
shown_turn c cs rs n s t p h k q lc lr w e =
    let b : ℕ = n - 1 in
    let m : n ≡ suc b = omega arith in
    let i : ℕ = b * 25 + (c - 1) in
    e
    ∙ ap (add_bucket b (get_or cs i nan) (get_or rs i nan)) (w ∙ ap (sums_of c cs rs) m)
    ∙ rw (get_or_within cs i nan nought (omega arith), get_or_within rs i nan nought (omega arith)) (sym (sums_more c cs rs b (omega arith)))

-- the rate of the last bucket that passes, of all
pub last_rate : (c : ℕ) (cs rs : List Float) (n : ℕ) → n ≡ 0 → (s : Scan) → shown s ≡ sums_of c cs rs n → option_map ladder s.best ≡ rate_in_column c cs rs
unfolding shown rate_in_column
last_rate c cs rs n z s e = ap (λ (t : Sums). t.rate) (e ∙ ap (sums_of c cs rs) z)
