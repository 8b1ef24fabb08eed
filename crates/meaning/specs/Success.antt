-- Success between none and all (document 02, L13), of the rounded numbers: after a fresh start and blocks that rise, each count is finite and not negative, no
-- confirmed count is above its resolved count, and each ratio that an estimate forms is from 0.0 to 1.0. Assumes nothing.
use Rattle.std.specs.Prelude.{◌≡◌, ℕ, suc, ◌≤◌, ◌<◌, List, T, drop, Float, None}
use Rattle.std.specs.Float.{binary64}
use Rattle.std.specs.Float.Ieee.{div, le}
use Rattle.kinds.specs.Answers.{done}
use Rattle.rules.specs.Ladder.{buckets}
use Rattle.rules.specs.Counts.{Counts, columns, nought, one, sound_count, cell}
use Rattle.rules.specs.Board.{Board}
use Rattle.rules.specs.Estimate.{column_of, column, Sums, add_bucket, sums_down_to, estimate}
use Rattle.rules.specs.Memory.{Lent}
use Rattle.rules.specs.Calls.{start_call}
use Rattle.meaning.specs.Runs.{Rising, Call, AllTyped, calls}

-- ---- the counts

-- "every count is finite and not negative", "no confirmed count exceeds its resolved count"
pub record Between (confirmed resolved : Float) : Type 0 where
  pub confirmed_sound : T (sound_count confirmed)
  pub resolved_sound : T (sound_count resolved)
  pub order : T (le confirmed resolved)

-- ---- the sums that the estimate forms

-- both sums for a target when the walk down from the highest bucket has added bucket b
unfoldable pub sums_at : Board → ℕ → ℕ → Counts → Counts → Sums
sums_at k target b confirmed resolved = sums_down_to b (drop b (column buckets (column_of k target) confirmed)) (drop b (column buckets (column_of k target) resolved))

-- It is the estimate's walk: at each bucket its two counts for the target are added and the sums put to the test, from 0.0 before the highest bucket on, and in
-- the end they have the rate. (Target 0 takes no walk.)
pub record Walk (k : Board) (target : ℕ) (confirmed resolved : Counts) : Type 0 where
  pub goes_down : (b : ℕ) → b < buckets → sums_at k target b confirmed resolved
      ≡ add_bucket b (cell confirmed b (column_of k target)) (cell resolved b (column_of k target)) (sums_at k target (suc b) confirmed resolved)
  pub begins : sums_at k target buckets confirmed resolved ≡ record { confirmed = nought; resolved = nought; rate = None }
  pub ends : 1 ≤ target → estimate k target confirmed resolved ≡ (sums_at k target 0 confirmed resolved).rate

-- the walk of an estimate, for every target and all counts
unfoldable pub WalkPromise : Board → Type 0
WalkPromise k = (target : ℕ) (confirmed resolved : Counts) → Walk k target confirmed resolved

-- ---- the ratios

-- "every ratio the estimate forms lies from 0.0 to 1.0": it forms one where the resolved sum is at least 1.0
unfoldable pub RatioWithin : Sums → Type 0
RatioWithin s = T (le one s.resolved) → T (le nought (div binary64 s.confirmed s.resolved)) × T (le (div binary64 s.confirmed s.resolved) one)

-- ---- the promise

-- of each of the 3,550 counts of each kind, and for each target at each bucket
pub record Success (k : Board) (confirmed resolved : Counts) : Type 0 where
  pub counts : (b c : ℕ) → b < buckets → 1 ≤ c → c ≤ columns → Between (cell confirmed b c) (cell resolved b c)
  pub ratios : (target b : ℕ) → 1 ≤ target → b < buckets → RatioWithin (sums_at k target b confirmed resolved)

-- Whatever memory is lent and whatever is called after it: if the fresh start is answered 0 and the accepted blocks rise.
unfoldable pub SuccessPromise : Board → Type 0
SuccessPromise k = (m : Lent) → (start_call k m).answer ≡ done → (cs : List Call) → AllTyped cs → Rising (calls k m cs).log → Success k (calls k m cs).memory.confirmed (calls k m cs).memory.resolved
