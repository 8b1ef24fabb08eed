-- Anything lent beyond the capacities is neither read nor written. Assumes nothing.
use Rattle.std.specs.Prelude.{◌≡◌, ℕ, ◌*◌, List, ◌++◌, take, drop, Float}
use Rattle.kinds.specs.declared.FeeRate.{FeeRate}
use Rattle.kinds.specs.declared.Height.{Height}
use Rattle.kinds.specs.declared.Blocks.{Blocks}
use Rattle.kinds.specs.declared.State.{State}
use Rattle.rules.specs.Counts.{places_of_counts}
use Rattle.rules.specs.Ids.{Id}
use Rattle.rules.specs.Board.{Board, confirmed_size}
use Rattle.rules.specs.Memory.{Lent, lent, pending_capacity, confirmed_capacity}
use Rattle.rules.specs.Calls.{Outcome, outcome, start_call, enter_call, leave_call, block_call, estimate_call}

-- ---- memory cut at its capacities

-- the bytes of a pending table up to its capacity
abbrev pub pending_room : Board → List ℕ → ℕ
pending_room k xs = pending_capacity k xs * k.table.size

-- the bytes of a confirmed table up to its capacity
abbrev pub confirmed_room : List ℕ → ℕ
confirmed_room xs = confirmed_capacity xs * confirmed_size

-- lent memory of one kind, cut in two
pub record Cut (L : Type 0) : Type 0 where
  pub inner : L → L  -- what stands within the capacities
  pub beyond : L → L  -- what stands beyond them
  pub before : L → L → L  -- one, and the other behind it

-- the four slices
abbrev pub of_lent : Board → Cut Lent
of_lent k = record {
  inner = λ l. lent (take places_of_counts l.confirmed) (take places_of_counts l.resolved) (take (pending_room k l.pending) l.pending) (take (confirmed_room l.recent) l.recent);
  beyond = λ l. lent (drop places_of_counts l.confirmed) (drop places_of_counts l.resolved) (drop (pending_room k l.pending) l.pending) (drop (confirmed_room l.recent) l.recent);
  before = λ l m. lent (l.confirmed ++ m.confirmed) (l.resolved ++ m.resolved) (l.pending ++ m.pending) (l.recent ++ m.recent);
}

-- a pending table by itself
abbrev pub of_pending : Board → Cut (List ℕ)
of_pending k = record { inner = λ xs. take (pending_room k xs) xs; beyond = λ xs. drop (pending_room k xs) xs; before = λ xs ys. xs ++ ys }

-- ---- the promise

-- On memories l and m: the same answer, the same state, the same inner contents, and behind them what each had beyond.
pub record Alike {L : Type 0} (c : Cut L) (l m : L) (o p : Outcome L) : Type 0 where
  pub answer : o.answer ≡ p.answer
  pub state : o.state ≡ p.state
  pub inner : L
  pub one : o.lent ≡ c.before inner (c.beyond l)
  pub other : p.lent ≡ c.before inner (c.beyond m)

-- a call that keeps within the capacities
pub record Confined {L : Type 0} (c : Cut L) (call : L → Outcome L) : Type 0 where
  -- Memory that is cut off there gives the same answer, the same state and the same bytes; behind them is what was beyond, as it was.
  pub cut_off : (l : L) → call l ≡ (let o = call (c.inner l) in outcome o.answer o.state (c.before o.lent (c.beyond l)))
  -- So whatever stands beyond: two memories that agree within the capacities fare alike.
  pub alike : (l m : L) → c.inner l ≡ c.inner m → Alike c l m (call l) (call m)

-- every call that is defined here
pub record BeyondPromise (k : Board) : Type 0 where
  pub start : Confined (of_lent k) (start_call k)
  pub enter : (s : State) (i : Id) (rate : FeeRate) (h : Height) → Confined (of_pending k) (λ xs. enter_call k s xs i rate h)
  pub leave : (s : State) (i : Id) → Confined (of_pending k) (λ xs. leave_call k s xs i)
  pub block : (s : State) (ids : List ℕ) (B : Height) → Confined (of_lent k) (λ l. block_call k s l ids B)
  -- an estimate lends nothing to be written
  pub estimate : (s : State) (confirmed resolved : List Float) (target : Blocks)
      → estimate_call k s confirmed resolved target ≡ estimate_call k s (take places_of_counts confirmed) (take places_of_counts resolved) target
