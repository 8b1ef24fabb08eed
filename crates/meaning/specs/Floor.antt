-- The floor (document 02, L9): no admission is below it. "Demand 3 speaks of admitted transactions", and an entry below the floor is none; so a bucket's counts are
-- of transactions at its rate or above and below the next bucket's, bucket 0's too. Assumes nothing.
use Rattle.std.specs.Prelude.{◌≡◌, ℕ, suc, ◌≤◌, ◌<◌, List}
use Rattle.kinds.specs.Answers.{done}
use Rattle.rules.specs.Ladder.{ladder, buckets, floor, bucket_index}
use Rattle.rules.specs.Board.{Board}
use Rattle.rules.specs.Memory.{Lent}
use Rattle.rules.specs.Calls.{start_call}
use Rattle.meaning.specs.Runs.{arrival, removal, block, Log, begin, ◌▸◌, Call, AllTyped, calls}

-- a rate is its bucket's own: not below the bucket's rate, and below the next one's, if there is one
pub record OwnBucket (rate : ℕ) : Type 0 where
  pub not_below : ladder (bucket_index rate) ≤ rate
  pub below_next : suc (bucket_index rate) < buckets → rate < ladder (suc (bucket_index rate))

-- each arrival of a log is at the floor or above, and in its own bucket
unfoldable pub Floored : Log → Type 0
Floored begin = Unit {0}
Floored (l ▸ arrival i rate e) = Floored l × (floor ≤ rate) × OwnBucket rate
Floored (l ▸ removal i) = Floored l
Floored (l ▸ block ids h) = Floored l

-- Whatever memory is lent and whatever is called after it, if the fresh start is answered 0. (The blocks need not rise.)
unfoldable pub FloorPromise : Board → Type 0
FloorPromise k = (m : Lent) → (start_call k m).answer ≡ done → (cs : List Call) → AllTyped cs → Floored (calls k m cs).log
