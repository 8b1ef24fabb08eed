-- What a caller learns of each compiled public call is what a step of `Ran` asks for, so that demand 3 holds of the compiled calls of both boards. If a contract in crate
-- `estimator` says less, this file is refused. Assumes nothing.
use mathlib.Core.Path.{◌≡◌, ap, ap₂, ◌∙◌}
use mathlib.Core.List.{List}
use Prim.Native.Nat.{ℕ}
use contract.Lifetimes.{Lfts}
use lib.Ieee.{Float}
use Rattle.kinds.specs.declared.Horizon.{Horizon}
use Rattle.kinds.specs.Answers.{start_answer, enter_answer, leave_answer, block_answer, estimate_answer, write_answer, read_answer, state_or, length_of}
use Rattle.rules.specs.Board.{board_of}
use Rattle.rules.specs.Estimator.{fresh}
use Rattle.rules.specs.Memory.{Lent, lent, state_of}
use Rattle.rules.specs.Slices.{given}
use Rattle.rules.specs.Calls.{outcome, start_call, enter_call, leave_call, block_call, estimate_call}
use Rattle.format.specs.File.{version_of}
use Rattle.format.specs.Calls.{output, write_call, read_call}
use Rattle.lives.specs.Lives.{Ask, Life}
use Rattle.lives.specs.Promises as contracts
use Rattle.lives.specs.Promises.{Ran, CodePromise}
use Rattle.lives.proofs.Boards.{code}
use Rattle.estimator.proofs.new.Reads as page_new
use Rattle.estimator.proofs.tx_entered.Reads as page_entered
use Rattle.estimator.proofs.tx_left.Reads as page_left
use Rattle.estimator.proofs.block_connected.Reads as page_connected
use Rattle.estimator.proofs.estimate.Reads as page_estimate
use Rattle.estimator.proofs.to_history_bytes.Reads as page_write
use Rattle.estimator.proofs.from_history_bytes.Reads as page_read
use Rattle.told.specs.Called.{Called, nothing, started, entered, left, connected, estimated, wrote, was_read, lent_anew, CalledPromise}

-- ---- each call's contract is the board's equation

start_said : (on : Horizon) (κs : Lfts 4) (c d x t : _) (r : _) (e : _) → page_new.Learnt κs (c, (d, (x, (t, (on, tt))))) r e
    → outcome (start_answer r) (state_or (state_of fresh) r) (given e.0 e.1.0 e.1.1.0 e.1.1.1.0) ≡ start_call (board_of on) (given c d x t)
start_said on κs c d x t r e l = l

enter_said : (on : Horizon) (κs : Lfts 2) (s x i q h : _) (r : _) (e : _) → page_entered.Learnt κs (s, (x, (i, (q, (h, (on, tt)))))) r e
    → outcome (enter_answer r) (state_or s r) e.1.0.now ≡ enter_call (board_of on) s x.now i.now q h
enter_said on κs s x i q h r e l = l

leave_said : (on : Horizon) (κs : Lfts 2) (s x i : _) (r : _) (e : _) → page_left.Learnt κs (s, (x, (i, (on, tt)))) r e
    → outcome (leave_answer r) (state_or s r) e.1.0.now ≡ leave_call (board_of on) s x.now i.now
leave_said on κs s x i r e l = l

block_said : (on : Horizon) (κs : Lfts 5) (s c d x t ids h : _) (r : _) (e : _)
    → page_connected.Learnt κs (s, (c, (d, (x, (t, (ids, (h, (on, tt)))))))) r e
    → outcome (block_answer r) (state_or s r) (given e.1.0 e.1.1.0 e.1.1.1.0 e.1.1.1.1.0) ≡ block_call (board_of on) s (given c d x t) ids.now h
block_said on κs s c d x t ids h r e l = l

estimate_said : (on : Horizon) (κs : Lfts 2) (s c d g : _) (r : _) (e : _) → page_estimate.Learnt κs (s, (c, (d, (g, (on, tt))))) r e
    → estimate_answer r ≡ estimate_call (board_of on) s c.now d.now g
estimate_said on κs s c d g r e l = l

write_said : (on : Horizon) (κs : Lfts 5) (s c d x t out : _) (r : _) (e : _) → page_write.Learnt κs (s, (c, (d, (x, (t, (out, (on, tt))))))) r e
    → outcome (write_answer r) s (output (length_of r) e.1.1.1.1.1.0.now) ≡ write_call (version_of on) (board_of on) s (lent c.now d.now x.now t.now) out.now
write_said on κs s c d x t out r e l = l

read_said : (on : Horizon) (κs : Lfts 5) (file c d x t : _) (r : _) (e : _) → page_read.Learnt κs (file, (c, (d, (x, (t, (on, tt)))))) r e
    → outcome (read_answer r) (state_or (state_of fresh) r) (given e.1.0 e.1.1.0 e.1.1.1.0 e.1.1.1.1.0) ≡ read_call (version_of on) (board_of on) (given c d x t) file.now
read_said on κs file c d x t r e l = l

-- ---- the calls in turn

pub told : (on : Horizon) (m : Life) {qs : List Ask} {y : Life} → Called on m qs y → Ran (version_of on) (board_of on) m qs y
told on m nothing = contracts.nothing
told on m (started p κs c d x t r e same l) = contracts.started (told on m p) r _ (start_said on κs c d x t r e l ∙ ap (start_call (board_of on)) same)
told on m (entered {qs} {y} p κs x i rate h r e same l) =
    contracts.entered (told on m p) i.now rate h r _ (enter_said on κs _ x i rate h r e l ∙ ap (λ (xs : List ℕ). enter_call (board_of on) y.held.state xs i.now rate h) same)
told on m (left {qs} {y} p κs x i r e same l) =
    contracts.left (told on m p) i.now r _ (leave_said on κs _ x i r e l ∙ ap (λ (xs : List ℕ). leave_call (board_of on) y.held.state xs i.now) same)
told on m (connected {qs} {y} p κs c d x t ids h r e same l) =
    contracts.connected (told on m p) ids.now h r _ (block_said on κs _ c d x t ids h r e l ∙ ap (λ (q : Lent). block_call (board_of on) y.held.state q ids.now h) same)
told on m (estimated {qs} {y} p κs c d target r e same like l) =
    contracts.estimated (told on m p) target r
    (estimate_said on κs _ c d target r e l ∙ ap₂ (λ (cs rs : List Float). estimate_call (board_of on) y.held.state cs rs target) same like)
told on m (wrote {qs} {y} p κs c d x t out r e same l) =
    contracts.wrote (told on m p) out.now r _ (write_said on κs _ c d x t out r e l ∙ ap (λ (q : Lent). write_call (version_of on) (board_of on) y.held.state q out.now) same)
told on m (was_read p κs file c d x t r e same l) =
    contracts.was_read (told on m p) file.now r _ (read_said on κs file c d x t r e l ∙ ap (λ (q : Lent). read_call (version_of on) (board_of on) q file.now) same)
told on m (lent_anew p l a) = contracts.lent_anew (told on m p) l a

-- demand 3 of the compiled calls
pub compiled : (on : Horizon) → CalledPromise on
unfolding CalledPromise CodePromise
compiled on m f qs y p = code on m f qs y (told on m p)
