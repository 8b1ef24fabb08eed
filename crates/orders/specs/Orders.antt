-- Entering and leaving, as laws over the calls: in which order they may come, and what undoes what. Assumes nothing.
use Rattle.std.specs.Prelude.{◌≡◌, ℕ, ◌+◌, ◌^◌, ◌≤◌, ◌<◌, Bool, true, false, List, T, length}
use Rattle.std.proofs.Math.Pow.{are_bytes}
use Rattle.kinds.specs.declared.FeeRate.{FeeRate}
use Rattle.kinds.specs.declared.Height.{Height}
use Rattle.kinds.specs.declared.State.{State}
use Rattle.kinds.specs.Answers.{pending_full, absent}
use Rattle.rules.specs.Ids.{Id, same}
use Rattle.rules.specs.Ladder.{floor}
use Rattle.rules.specs.Board.{Board}
use Rattle.rules.specs.Estimator.{is_pending}
use Rattle.rules.specs.Memory.{pending_capacity, pending_records, sound_pending}
use Rattle.rules.specs.Calls.{Outcome, refused, enter_call, leave_call}

-- ---- calls, one after the other

-- a call that is given the state and the pending table's bytes
abbrev pub Call : Type 0
Call = State → List ℕ → Outcome (List ℕ)

-- an entry: its id has 32 bytes and its height 32 bits, as the code's types say
pub record Entry : Type 0 where
  pub id : Id
  pub rate : FeeRate
  pub height : Height
  pub id_long : length id ≡ 32
  pub height_small : height.0 < 2 ^ 32

-- Enter (id, rate, height).
abbrev pub entering : Board → Entry → Call
entering k x s xs = enter_call k s xs x.id x.rate x.height

-- Leave (id).
abbrev pub leaving : Board → Id → Call
leaving k i s xs = leave_call k s xs i

-- the first, then the second, which is given what the first has left
abbrev pub in_turn : Call → Call → Call
in_turn first second s xs = second (first s xs).state (first s xs).lent

-- the memory: the state, and every byte lent
pub record Holds (o : Outcome (List ℕ)) (s : State) (xs : List ℕ) : Type 0 where
  pub state : o.state ≡ s
  pub lent : o.lent ≡ xs

-- the same memory in either order
abbrev pub Alike : Call → Call → State → List ℕ → Type 0
Alike p q s xs = Holds (in_turn p q s xs) (in_turn q p s xs).state (in_turn q p s xs).lent

-- p and q commute: the same memory in either order, and each answers what it would have answered alone
pub record Commute (p q : Call) (s : State) (xs : List ℕ) : Type 0 where
  pub memory : Alike p q s xs
  pub answer_of_q : (in_turn p q s xs).answer ≡ (q s xs).answer
  pub answer_of_p : (in_turn q p s xs).answer ≡ (p s xs).answer

-- ---- the laws

-- there is a pending record of i
abbrev pub has : Board → State → List ℕ → Id → Bool
has k s xs i = is_pending i (pending_records k s.pending xs)

-- at least so many places are free
abbrev pub Free : ℕ → Board → State → List ℕ → Type 0
Free n k s xs = s.pending + n ≤ pending_capacity k xs

-- the promises about two calls, on this state and these bytes
pub record Orders (k : Board) (s : State) (xs : List ℕ) : Type 0 where
  -- "Two entries of different ids, neither pending, with at least two free places, give the same memory in either order."
  pub entries : (x y : Entry) → same x.id y.id ≡ false → has k s xs x.id ≡ false → has k s xs y.id ≡ false → Free 2 k s xs → Commute (entering k x) (entering k y) s xs
  -- "Leaves of different ids commute always."
  pub leaves : (i j : Id) → same i j ≡ false → Commute (leaving k i) (leaving k j) s xs
  -- Not asked for, but next to both: an entry and a leave of different ids, with at least one free place.
  pub apart : (x : Entry) (i : Id) → same x.id i ≡ false → Free 1 k s xs → Commute (entering k x) (leaving k i) s xs
  -- "Entering an id that is not pending and then leaving it restores all memory;"
  pub undone : (x : Entry) → has k s xs x.id ≡ false → Holds (in_turn (entering k x) (leaving k x.id) s xs) s xs
  -- "on a full table the first is refused and the second answers Absent, and memory is the same again." (Below the floor its refusal is another: 16, L9.)
  pub full : (x : Entry) → floor ≤ x.rate.0 → sound_pending k s.pending xs ≡ true → has k s xs x.id ≡ false → s.pending ≡ pending_capacity k xs
      → (entering k x s xs ≡ refused pending_full s xs) × (in_turn (entering k x) (leaving k x.id) s xs ≡ refused absent s xs)

-- whatever state is given and whatever bytes are lent, sound or not
unfoldable pub OrderPromise : Board → Type 0
OrderPromise k = (s : State) (xs : List ℕ) → T (are_bytes xs) → Orders k s xs
