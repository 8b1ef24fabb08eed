-- Edges of the public calls of a board: one call on given memory, its answer, and what the tables and the state are afterwards. Assumes nothing.
use Prim.Native.Nat.{ℕ, zero, suc, ◌+◌, ◌-◌, ◌*◌}
use mathlib.Core.Bool.{Bool, true, false, not, cond, ◌&&◌}
use mathlib.Core.List.{List, [], ◌∷◌, ◌++◌}
use lib.Dec.{eqb}
use lib.ListN.{take, drop, replicate}
use lib.Ieee.{Float, nan, inf, fin, binary64, to_bits}
use Rattle.kinds.specs.declared.State.{State}
use Rattle.std.specs.Prelude.{None}
use Rattle.kinds.specs.Answers.{Answer}
use Rattle.rules.specs.Ids.{Id, same}
use Rattle.rules.specs.Counts.{Counts, nought, places_of_counts}
use Rattle.rules.specs.Board.{Board}
use Rattle.rules.specs.Memory.{Lent}
use Rattle.rules.specs.Calls.{start_call, enter_call, leave_call, block_call, block_report, estimate_call}

-- ---- counts

-- +0.0
unfoldable pub plain_zero : Float → Bool
plain_zero nan = false
plain_zero (inf s) = false
plain_zero (fin s zero e) = not s
plain_zero (fin s (suc m) e) = false

-- the same binary64 pattern: both +0.0, or else by their bits, which take longer to compute
unfoldable pub same_count : Float → Float → Bool
same_count x y = cond (plain_zero x && plain_zero y) true (eqb (to_bits binary64 x) (to_bits binary64 y))

-- the same patterns
unfoldable pub same_counts : Counts → Counts → Bool
same_counts [] [] = true
same_counts [] (y ∷ ys) = false
same_counts (x ∷ xs) [] = false
same_counts (x ∷ xs) (y ∷ ys) = same_count x y && same_counts xs ys

-- these counts in the bucket b, and +0.0 elsewhere
unfoldable pub only : ℕ → List Float → Counts
only b row = replicate (b * 25) nought ++ row ++ replicate (places_of_counts - (b * 25 + 25)) nought

-- ---- calls

-- an id of one byte and 31 zeros
abbrev pub id : ℕ → Id
id n = n ∷ replicate 31 0

-- one call
pub data Ask : Type 0 where
  enters : State → List ℕ → Id → Ask  -- at rate 5,000 and height 100
  enters_at : ℕ → State → List ℕ → Id → Ask  -- rate, at height 100
  leaves : State → List ℕ → Id → Ask
  connects : State → Lent → List ℕ → ℕ → Ask  -- the list's bytes, height
  estimates : Counts → Counts → ℕ → Ask  -- target

-- its answer
unfoldable pub answer_of : Board → Ask → Answer
answer_of k (enters s xs i) = (enter_call k s xs i (record { 0 = 5000 }) (record { 0 = 100 })).answer
answer_of k (enters_at rate s xs i) = (enter_call k s xs i (record { 0 = rate }) (record { 0 = 100 })).answer
answer_of k (leaves s xs i) = (leave_call k s xs i).answer
answer_of k (connects s l ids B) = (block_call k s l ids (record { 0 = B })).answer
answer_of k (estimates c r target) = estimate_call k (record { last = None; pending = 0; recent = 0 }) c r (record { 0 = target })

-- what an edge says
pub data Edge : Type 0 where
  -- the call gets this number, and the answer carries this
  says : Ask → ℕ → List ℕ → Edge
  -- a fresh start on this memory gets this number
  starts : Lent → ℕ → Edge
  -- a block leaves these tables and used numbers
  leaves_tables : State → Lent → List ℕ → ℕ → List ℕ → List ℕ → ℕ → ℕ → Edge
  -- a block leaves these counts in a bucket, and +0.0 elsewhere
  leaves_counts : State → Lent → List ℕ → ℕ → ℕ → List Float → List Float → Edge
  -- a block is Done, and leaves these numbers past the 3,550 counts of each kind
  leaves_beyond : State → Lent → List ℕ → ℕ → List Float → List Float → Edge
  -- a block reports this number of additions
  reports : State → Lent → List ℕ → ℕ → ℕ → Edge

-- the edge is one of the board
unfoldable pub holds_true : Board → Edge → Bool
holds_true k (says q n carried) = let a = answer_of k q in eqb a.number n && same a.carries carried
holds_true k (starts l n) = eqb (start_call k l).answer.number n
holds_true k (leaves_tables s l ids B pending recent p r) =
    let o = block_call k s l ids (record { 0 = B }) in
    same o.lent.pending pending && (same o.lent.recent recent && (eqb o.state.pending p && eqb o.state.recent r))
holds_true k (leaves_counts s l ids B b confirmed resolved) =
    let o = block_call k s l ids (record { 0 = B }) in
    same_counts (take places_of_counts o.lent.confirmed) (only b confirmed) && same_counts (take places_of_counts o.lent.resolved) (only b resolved)
holds_true k (leaves_beyond s l ids B confirmed resolved) =
    let o = block_call k s l ids (record { 0 = B }) in
    eqb o.answer.number 0 && (same_counts (drop places_of_counts o.lent.confirmed) confirmed && same_counts (drop places_of_counts o.lent.resolved) resolved)
holds_true k (reports s l ids B n) = eqb (block_report k s l ids (record { 0 = B })) n
