-- The answers of a run's calls, from the log: the memory is sound, so that none is answered 1, and what a call asks of the pending table is what the
-- log has pending. Assumes nothing.
use mathlib.Core.Path.{◌≡◌, refl, sym, ap, ap₂, ◌∙◌}
use mathlib.Core.Bool.{Bool, true, false, not, ◌&&◌, cond, true≢false}
use mathlib.Core.List.{List}
use Prim.Native.Nat.{ℕ, ◌+◌, ◌-◌, ◌%◌, ◌<◌}
use native.Mathlib.Omega.{arith}
use lib.Dec.{ltb, eqb, ltb→lt, lt→ltb}
use lib.ListN.{length}
use Rattle.kinds.specs.declared.Blocks.{Blocks}
use Rattle.kinds.specs.declared.FeeRate.{FeeRate}
use Rattle.kinds.specs.declared.Height.{Height}
use Rattle.kinds.specs.Last.{Last}
use Rattle.std.specs.Prelude.{None, Some}
use Rattle.kinds.specs.Answers.{Answer, done, below_floor, already_pending, pending_full, absent, bad_list, gap_too_wide, confirmed_full}
use Rattle.rules.specs.Lists.{count}
use Rattle.rules.specs.Ids.{Id, same}
use Rattle.rules.specs.Ladder.{floor}
use Rattle.rules.specs.Board.{Board, Pending, Lawful}
use Rattle.rules.specs.Estimator.{Estimator, is_pending, admit, block_connected}
use Rattle.rules.specs.Estimate.{estimate}
use Rattle.rules.specs.Memory.{Lent, pending_capacity, confirmed_capacity, pending_records, sound_counts, sound_pending, sound, view}
use Rattle.rules.specs.Calls.{Outcome, refused, accepted, accepted_pending, enter_call, leave_call, gap, widest_gap, ids_of, held_once_listed, block_call, rate_answer, estimate_call}
use Rattle.rules.proofs.Records.{and_left, and_right}
use Rattle.floats.specs.Factor.{Factor}
use Rattle.meaning.specs.Runs.{Log, last_of, Rising, singly, Call, enter, leave, connect, Held, outcome_of, calls}
use Rattle.meaning.specs.Fates.{admissions, pends, Meant}
use Rattle.meaning.specs.Answered.{run, waiting, too_far, foretold, Answered, AnswerPromise}
use Rattle.lists.proofs.Counting.{count_ext, count_length}
use Rattle.meaning.proofs.Counting.{bool_ext, any_count}
use Rattle.meaning.proofs.Living.{and_true}
use Rattle.rules.proofs.Memory.{pending_length}
use Rattle.meaning.proofs.Leading.{Comes, seen, comes}
use Rattle.meaning.proofs.Meaning.{meant}
use Rattle.meaning.proofs.Estimates.{estimates}
use Rattle.meaning.proofs.Sound.{follows}

-- ---- the answer of a judged call

module _ {L : Type 0} where
  -- not damaged, and then one more test
  after_sound : (p t : Bool) (x y z : Outcome L) → p ≡ true → (cond (not p) x (cond t y z)).answer ≡ cond t y.answer z.answer
  after_sound true true x y z e = refl
  after_sound true false x y z e = refl
  after_sound false t x y z e = absurd (true≢false (sym e))

  after_test : (t : Bool) (y z : Outcome L) → (cond t y z).answer ≡ cond t y.answer z.answer
  after_test true y z = refl
  after_test false y z = refl

turn : {A : Type 0} (t : Bool) (y z : A) → cond (not t) y z ≡ cond t z y
turn true y z = refl
turn false y z = refl

gap_is : (l : Last) (B : Height) → ltb widest_gap (gap l B) ≡ too_far l B.0
unfolding gap too_far
gap_is None B = refl
gap_is (Some g) B =
    bool_ext (ltb widest_gap (B.0 - g.0)) (ltb (g.0 + 4096) B.0)
    (λ t. lt→ltb (g.0 + 4096) B.0 (omega (arith, ltb→lt widest_gap (B.0 - g.0) t)))
    (λ t. lt→ltb widest_gap (B.0 - g.0) (omega (arith, ltb→lt (g.0 + 4096) B.0 t)))

module _ (k : Board) (pos : 0 < k.width) (l : Log) (x : Held) (n : Meant k l x) (q : sound k x.state x.memory ≡ true) (seen : view k x.state x.memory ≡ run k x.log) where
  abbrev rs : List Pending
  rs = pending_records k x.state.pending x.memory.pending

  table_sound : sound_pending k x.state.pending x.memory.pending ≡ true
  unfolding sound
  table_sound = and_left _ _ (and_right (sound_counts x.memory.resolved) _ (and_right (sound_counts x.memory.confirmed) _ q))

  -- the table has an id exactly if the log has it pending
  same_waiting : (i : Id) → is_pending i rs ≡ waiting k l i
  unfolding is_pending waiting
  same_waiting i =
      any_count (λ r. same r.id i) rs
      ∙ ap (λ (c : ℕ). not (eqb c 0)) (n.pending_are (λ j b e. same j i))
      ∙ sym (any_count (λ a. pends k a && same a.id i) (admissions l))

  -- and as many records as the log has pending
  same_number : x.state.pending ≡ count (pends k) (admissions l)
  same_number =
      sym (pending_length k x.state.pending x.memory.pending)
      ∙ sym (count_length rs)
      ∙ n.pending_are (λ j b e. true)
      ∙ count_ext (λ a. pends k a && true) (pends k) (λ a. and_true (pends k a)) (admissions l)

  abbrev full : Bool
  full = eqb x.state.pending (pending_capacity k x.memory.pending)

  enter_is : (i : Id) (rate : FeeRate) (h : Height) → (outcome_of k (enter i rate h) x).answer ≡ foretold k l x (enter i rate h)
  unfolding outcome_of enter_call foretold
  enter_is i rate h =
      let low = ltb rate.0 floor in
      let next = accepted_pending k x.state (admit i rate.0 h.0 rs) x.memory.pending in
      let rest = cond full (refused pending_full x.state x.memory.pending) next in
      after_sound (sound_pending k x.state.pending x.memory.pending) low _ _ _ table_sound
      ∙ ap (cond low below_floor) (after_test (is_pending i rs) (refused already_pending x.state x.memory.pending) rest)
      ∙ ap (λ (a : Answer). cond low below_floor (cond (is_pending i rs) already_pending a)) (after_test full (refused pending_full x.state x.memory.pending) next)
      ∙ ap₂ (λ (w : Bool) (c : ℕ). cond low below_floor (cond w already_pending (cond (eqb c (pending_capacity k x.memory.pending)) pending_full done))) (same_waiting i) same_number

  leave_is : (i : Id) → (outcome_of k (leave i) x).answer ≡ foretold k l x (leave i)
  unfolding outcome_of leave_call foretold
  leave_is i =
      after_sound (sound_pending k x.state.pending x.memory.pending) (not (is_pending i rs)) _ _ _ table_sound
      ∙ turn (is_pending i rs) absent done
      ∙ ap (λ (w : Bool). cond w done absent) (same_waiting i)

  block_is : (ids : List ℕ) (B : Height) → (outcome_of k (connect ids B) x).answer ≡ foretold k l x (connect ids B)
  unfolding outcome_of block_call foretold
  block_is ids B =
      let bad = not (eqb (length ids % 32) 0) in
      let far = ltb widest_gap (gap x.state.last B) in
      let over = ltb (confirmed_capacity x.memory.recent) (held_once_listed k (ids_of ids) B.0 (view k x.state x.memory)) in
      let next = accepted k (block_connected k (ids_of ids) B.0 (view k x.state x.memory)) x.memory in
      let rest = cond over (refused confirmed_full x.state x.memory) next in
      after_sound (sound k x.state x.memory) bad _ _ _ q
      ∙ ap (cond bad bad_list) (after_test far (refused gap_too_wide x.state x.memory) rest)
      ∙ ap (λ (a : Answer). cond bad bad_list (cond far gap_too_wide a)) (after_test over (refused confirmed_full x.state x.memory) next)
      ∙ ap₂ (λ (t : Bool) (e : Estimator). cond bad bad_list (cond t gap_too_wide (cond (ltb (confirmed_capacity x.memory.recent) (held_once_listed k (ids_of ids) B.0 e)) confirmed_full done)))
      (ap (λ (y : Last). ltb widest_gap (gap y B)) n.last_is ∙ gap_is (last_of l) B)
      seen

  answered : Answered k l x
  unfolding estimate_call sound
  answered = record { answers_are = answers; estimates_are = given; estimates_made = estimates k pos l x n }
    where
      answers : (c : Call) → (outcome_of k c x).answer ≡ foretold k l x c
      answers (enter i rate h) = enter_is i rate h
      answers (leave i) = leave_is i
      answers (connect ids B) = block_is ids B

      given : (target : Blocks) → estimate_call k x.state x.memory.confirmed x.memory.resolved target ≡ rate_answer (estimate k target.0 x.memory.confirmed x.memory.resolved)
      given target =
          let c : sound_counts x.memory.confirmed ≡ true = and_left (sound_counts x.memory.confirmed) _ q in
          let r : sound_counts x.memory.resolved ≡ true = and_left (sound_counts x.memory.resolved) _ (and_right (sound_counts x.memory.confirmed) _ q) in
          rw (c, r)

pub answers_of : (k : Board) → Lawful k → Factor k.decay → (m : Lent) (x : Held) → Comes k m x → Rising x.log → Answered k (singly x.log) x
answers_of k law d m x c r =
    answered k law.wide (singly x.log) x (meant k law m x c r) (follows k d law m x c).sound_is (seen k law m x c)

pub answer_promise : (k : Board) → Lawful k → Factor k.decay → AnswerPromise k
unfolding AnswerPromise
answer_promise k law d m e cs t r = answers_of k law d m (calls k m cs) (comes k law m e cs t) r
