-- A life of which nothing is known but that each call meets its contract, and that memory which is lent anew holds what the run holds. What stands before `≡` is
-- what the contract in crate `estimator` says of the call's result (crate `told` shows that it does), what stands after it is the definition that it cites.
-- Assumes nothing.
use Rattle.std.specs.Prelude.{◌≡◌, ℕ, true, false, List, [], ◌∷◌, ◌++◌, Option, Result}
use Rattle.kinds.specs.declared.FeeRate.{FeeRate}
use Rattle.kinds.specs.declared.Height.{Height}
use Rattle.kinds.specs.declared.Blocks.{Blocks}
use Rattle.kinds.specs.declared.State.{State}
use Rattle.kinds.specs.declared.refusals.Damaged.{Damaged}
use Rattle.kinds.specs.declared.refusals.EnterError.{EnterError}
use Rattle.kinds.specs.declared.refusals.LeaveError.{LeaveError}
use Rattle.kinds.specs.declared.refusals.BlockError.{BlockError}
use Rattle.kinds.specs.declared.refusals.ReadError.{ReadError}
use Rattle.kinds.specs.declared.refusals.WriteError.{WriteError}
use Rattle.kinds.specs.Answers.{start_answer, enter_answer, leave_answer, block_answer, estimate_answer, write_answer, read_answer, state_or, length_of}
use Rattle.rules.specs.Ids.{Id}
use Rattle.rules.specs.Board.{Board}
use Rattle.rules.specs.Estimator.{fresh}
use Rattle.rules.specs.Memory.{Lent, state_of}
use Rattle.rules.specs.Calls.{outcome, start_call, enter_call, leave_call, block_call, estimate_call}
use Rattle.format.specs.File.{Version}
use Rattle.format.specs.Calls.{output, write_call, read_call}
use Rattle.meaning.specs.Runs.{Rising, enter, leave, connect, with_table, noted}
use Rattle.lives.specs.Anew.{Anew}
use Rattle.lives.specs.Lives.{Ask, start, change, estimate, write, read, lend, Life, holding, goes_on, begun, TypedAsks, Lived}

-- The calls asked in turn, from the life m, and the life that they led to.
pub data Ran (v : Version) (k : Board) (m : Life) : List Ask → Life → Type 0 where
  nothing : Ran v k m [] m
  started : {qs : List Ask} {y : Life} → Ran v k m qs y → (r : Result State Damaged) (l : Lent)
      → outcome (start_answer r) (state_or (state_of fresh) r) l ≡ start_call k y.held.memory
      → Ran v k m (qs ++ start ∷ []) (begun true (outcome (start_answer r) (state_or (state_of fresh) r) l) y)
  entered : {qs : List Ask} {y : Life} → Ran v k m qs y → (i : Id) (rate : FeeRate) (h : Height) (r : Result State EnterError) (pending : List ℕ)
      → outcome (enter_answer r) (state_or y.held.state r) pending ≡ enter_call k y.held.state y.held.memory.pending i rate h
      → Ran v k m (qs ++ change (enter i rate h) ∷ [])
      (holding y (noted (enter i rate h) (with_table y.held.memory (outcome (enter_answer r) (state_or y.held.state r) pending)) y.held.log))
  left : {qs : List Ask} {y : Life} → Ran v k m qs y → (i : Id) (r : Result State LeaveError) (pending : List ℕ)
      → outcome (leave_answer r) (state_or y.held.state r) pending ≡ leave_call k y.held.state y.held.memory.pending i
      → Ran v k m (qs ++ change (leave i) ∷ [])
      (holding y (noted (leave i) (with_table y.held.memory (outcome (leave_answer r) (state_or y.held.state r) pending)) y.held.log))
  connected : {qs : List Ask} {y : Life} → Ran v k m qs y → (ids : List ℕ) (h : Height) (r : Result State BlockError) (l : Lent)
      → outcome (block_answer r) (state_or y.held.state r) l ≡ block_call k y.held.state y.held.memory ids h
      → Ran v k m (qs ++ change (connect ids h) ∷ []) (holding y (noted (connect ids h) (outcome (block_answer r) (state_or y.held.state r) l) y.held.log))
  estimated : {qs : List Ask} {y : Life} → Ran v k m qs y → (target : Blocks) (r : Result (Option FeeRate) Damaged)
      → estimate_answer r ≡ estimate_call k y.held.state y.held.memory.confirmed y.held.memory.resolved target
      → Ran v k m (qs ++ estimate target ∷ []) y
  wrote : {qs : List Ask} {y : Life} → Ran v k m qs y → (out : List ℕ) (r : Result ℕ WriteError) (left : List ℕ)
      → outcome (write_answer r) y.held.state (output (length_of r) left) ≡ write_call v k y.held.state y.held.memory out
      → Ran v k m (qs ++ write out ∷ []) (goes_on y y.held.state y.held.memory)
  was_read : {qs : List Ask} {y : Life} → Ran v k m qs y → (file : List ℕ) (r : Result State ReadError) (l : Lent)
      → outcome (read_answer r) (state_or (state_of fresh) r) l ≡ read_call v k y.held.memory file
      → Ran v k m (qs ++ read file ∷ []) (begun false (outcome (read_answer r) (state_or (state_of fresh) r) l) y)
  lent_anew : {qs : List Ask} {y : Life} → Ran v k m qs y → (l : Lent) → (y.is_fresh ≡ true → Anew k y.held.state y.held.memory l) → Ran v k m (qs ++ lend l ∷ []) (goes_on y y.held.state l)

-- Demand 3 of whatever meets the contracts: if the run that stands began with a fresh start and its accepted blocks rise.
unfoldable pub CodePromise : Version → Board → Type 0
CodePromise v k = (m : Life) → m.is_fresh ≡ false → (qs : List Ask) (y : Life) → Ran v k m qs y → TypedAsks qs → y.is_fresh ≡ true → Rising y.held.log → Lived k y.held
