-- A life of the compiled public calls of a board. `Learnt` is what a caller learns of a call: the toolchain makes it from the call's own `ensures` in crate
-- `estimator`, of the arguments, the result and the lent slices when they come back. So here nothing is retyped: a contract that says less leads to less.
-- Assumes nothing.
use Rattle.std.specs.Prelude.{ℕ, Float, ◌≡◌, true, false, List, [], ◌∷◌, ◌++◌}
use Rattle.std.specs.Borrow.{Bor, MutBor}
use contract.Lifetimes.{Lfts}
use Rattle.kinds.specs.declared.Horizon.{Horizon}
use Rattle.kinds.specs.Answers.{start_answer, enter_answer, leave_answer, block_answer, read_answer, state_or}
use Rattle.rules.specs.Board.{board_of}
use Rattle.rules.specs.Estimator.{fresh}
use Rattle.rules.specs.Memory.{Lent, lent, state_of}
use Rattle.rules.specs.Slices.{given}
use Rattle.rules.specs.Calls.{outcome}
use Rattle.meaning.specs.Runs.{Rising, enter, leave, connect, with_table, noted}
use Rattle.lives.specs.Anew.{Anew}
use Rattle.lives.specs.Lives.{Ask, start, change, estimate, write, read, lend, Life, holding, goes_on, begun, TypedAsks, Lived}
use Rattle.estimator.proofs.new.Reads as page_new
use Rattle.estimator.proofs.tx_entered.Reads as page_entered
use Rattle.estimator.proofs.tx_left.Reads as page_left
use Rattle.estimator.proofs.block_connected.Reads as page_connected
use Rattle.estimator.proofs.estimate.Reads as page_estimate
use Rattle.estimator.proofs.to_history_bytes.Reads as page_write
use Rattle.estimator.proofs.from_history_bytes.Reads as page_read

-- The calls of a board made in turn, from the life m, and the life that they led to. Each is given the state and the slices that the life has (confirmed, resolved,
-- pending, recent: c d x t), and leads to what it returned (r) and left in them (e). Between two calls memory may be lent anew.
pub data Called (on : Horizon) (m : Life) : List Ask → Life → Type 0 where
  nothing : Called on m [] m
  started : {qs : List Ask} {y : Life} → Called on m qs y → (κs : Lfts 4) (c d x t : _) (r : _) (e : _) → given c d x t ≡ y.held.memory
      → page_new.Learnt κs (c, (d, (x, (t, (on, tt))))) r e
      → Called on m (qs ++ start ∷ []) (begun true (outcome (start_answer r) (state_or (state_of fresh) r) (given e.0 e.1.0 e.1.1.0 e.1.1.1.0)) y)
  entered : {qs : List Ask} {y : Life} → Called on m qs y → (κs : Lfts 2) (x : MutBor (List ℕ)) (i : Bor (List ℕ)) (rate h : _) (r : _) (e : _) → x.now ≡ y.held.memory.pending
      → page_entered.Learnt κs (y.held.state, (x, (i, (rate, (h, (on, tt)))))) r e
      → Called on m (qs ++ change (enter i.now rate h) ∷ [])
      (holding y (noted (enter i.now rate h) (with_table y.held.memory (outcome (enter_answer r) (state_or y.held.state r) e.1.0.now)) y.held.log))
  left : {qs : List Ask} {y : Life} → Called on m qs y → (κs : Lfts 2) (x : MutBor (List ℕ)) (i : Bor (List ℕ)) (r : _) (e : _) → x.now ≡ y.held.memory.pending
      → page_left.Learnt κs (y.held.state, (x, (i, (on, tt)))) r e
      → Called on m (qs ++ change (leave i.now) ∷ [])
      (holding y (noted (leave i.now) (with_table y.held.memory (outcome (leave_answer r) (state_or y.held.state r) e.1.0.now)) y.held.log))
  connected : {qs : List Ask} {y : Life} → Called on m qs y → (κs : Lfts 5) (c d x t : _) (ids : Bor (List ℕ)) (h : _) (r : _) (e : _) → given c d x t ≡ y.held.memory
      → page_connected.Learnt κs (y.held.state, (c, (d, (x, (t, (ids, (h, (on, tt)))))))) r e
      → Called on m (qs ++ change (connect ids.now h) ∷ [])
      (holding y (noted (connect ids.now h) (outcome (block_answer r) (state_or y.held.state r) (given e.1.0 e.1.1.0 e.1.1.1.0 e.1.1.1.1.0)) y.held.log))
  estimated : {qs : List Ask} {y : Life} → Called on m qs y → (κs : Lfts 2) (c d : Bor (List Float)) (target : _) (r : _) (e : _)
      → c.now ≡ y.held.memory.confirmed → d.now ≡ y.held.memory.resolved
      → page_estimate.Learnt κs (y.held.state, (c, (d, (target, (on, tt))))) r e
      → Called on m (qs ++ estimate target ∷ []) y
  wrote : {qs : List Ask} {y : Life} → Called on m qs y → (κs : Lfts 5) (c d : Bor (List Float)) (x t : Bor (List ℕ)) (out : MutBor (List ℕ)) (r : _) (e : _) → lent c.now d.now x.now t.now ≡ y.held.memory
      → page_write.Learnt κs (y.held.state, (c, (d, (x, (t, (out, (on, tt))))))) r e
      → Called on m (qs ++ write out.now ∷ []) (goes_on y y.held.state y.held.memory)
  was_read : {qs : List Ask} {y : Life} → Called on m qs y → (κs : Lfts 5) (file : Bor (List ℕ)) (c d x t : _) (r : _) (e : _) → given c d x t ≡ y.held.memory
      → page_read.Learnt κs (file, (c, (d, (x, (t, (on, tt)))))) r e
      → Called on m (qs ++ read file.now ∷ [])
      (begun false (outcome (read_answer r) (state_or (state_of fresh) r) (given e.1.0 e.1.1.0 e.1.1.1.0 e.1.1.1.1.0)) y)
  lent_anew : {qs : List Ask} {y : Life} → Called on m qs y → (l : Lent) → (y.is_fresh ≡ true → Anew (board_of on) y.held.state y.held.memory l)
      → Called on m (qs ++ lend l ∷ []) (goes_on y y.held.state l)

-- Demand 3 of a board's compiled calls: if the run that stands began with a fresh start and its accepted blocks rise.
unfoldable pub CalledPromise : Horizon → Type 0
CalledPromise on =
    (m : Life) → m.is_fresh ≡ false → (qs : List Ask) (y : Life) → Called on m qs y → TypedAsks qs → y.is_fresh ≡ true → Rising y.held.log → Lived (board_of on) y.held
