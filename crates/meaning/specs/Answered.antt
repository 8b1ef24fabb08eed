-- What the calls of a run answer, from the log; what every run comes to; and the promise said again in other words. Assumes nothing.
use Rattle.std.specs.Prelude.{◌≡◌, ℕ, zero, suc, ◌+◌, ◌*◌, ◌%◌, ◌≤◌, Bool, true, false, not, ◌&&◌, cond, List, [], ◌∷◌, leb, ltb, eqb, length, Float, Option, None, Some}
use Rattle.kinds.specs.declared.Blocks.{Blocks}
use Rattle.kinds.specs.Last.{Last}
use Rattle.kinds.specs.Answers.{Answer, done, below_floor, already_pending, pending_full, absent, bad_list, gap_too_wide, confirmed_full}
use Rattle.rules.specs.Lists.{any, count}
use Rattle.rules.specs.Ids.{Id, same}
use Rattle.rules.specs.Ladder.{buckets, floor}
use Rattle.rules.specs.Counts.{columns}
use Rattle.rules.specs.Board.{Board}
use Rattle.rules.specs.Estimator.{Estimator, fresh, tx_entered, tx_left, block_connected}
use Rattle.rules.specs.Estimate.{column_of, sums_down_to, estimate}
use Rattle.rules.specs.Memory.{Lent, pending_capacity, confirmed_capacity, pending_records, sound, state_of, lay}
use Rattle.rules.specs.Calls.{start_call, ids_of, held_once_listed, rate_answer, estimate_call}
use Rattle.meaning.specs.Runs.{arrival, removal, block, Log, begin, ◌▸◌, last_of, Rising, singly, Call, enter, leave, connect, AllTyped, Held, outcome_of, calls}
use Rattle.meaning.specs.Fates.{Fate, undecided, withdrawn, counted, fate_of, Kind, in_resolved, in_confirmed, of_kind, admissions, tally, count_of, pends}

-- ---- answers

-- document 01's steps over a log
unfoldable pub run : Board → Log → Estimator
run k begin = fresh
run k (l ▸ arrival i rate e) = tx_entered i rate e (run k l)
run k (l ▸ removal i) = tx_left i (run k l)
run k (l ▸ block ids h) = block_connected k ids h (run k l)

-- an admission of i is pending
unfoldable pub waiting : Board → Log → Id → Bool
waiting k l i = any (λ a. pends k a && same a.id i) (admissions l)

-- B is more than 4,096 above the last height
unfoldable pub too_far : Last → ℕ → Bool
too_far None B = false
too_far (Some g) B = ltb (g.0 + 4096) B

-- The answer of the next call. Never 1. Enter: 16 if the rate is below the floor, else 2 if an admission of the id is pending, else 3 if as many are as the lent
-- table holds. Leave: 4 if none of the id is. Block: 5 by the list's length, else 6 by the last height, else 7 if the confirmed
-- records that document 01's steps leave, once the list is in, are more than the lent table holds.
unfoldable pub foretold : Board → Log → Held → Call → Answer
foretold k l x (enter i rate h) =
    cond (ltb rate.0 floor) below_floor
    (cond (waiting k l i) already_pending
    (cond (eqb (count (pends k) (admissions l)) (pending_capacity k x.memory.pending)) pending_full done))
foretold k l x (leave i) = cond (waiting k l i) done absent
foretold k l x (connect ids h) =
    cond (not (eqb (length ids % 32) 0)) bad_list
    (cond (too_far (last_of l) h.0) gap_too_wide
    (cond (ltb (confirmed_capacity x.memory.recent) (held_once_listed k (ids_of ids) h.0 (run k x.log))) confirmed_full done))

-- ---- estimates

-- the counts of column c that a log makes, in n buckets from b on
unfoldable pub column_made : Kind → Board → Log → ℕ → ℕ → ℕ → List Float
column_made which k l c b zero = []
column_made which k l c b (suc n) = count_of which k l b c ∷ column_made which k l c (suc b) n

-- document 01's estimate for a target, of those counts
unfoldable pub estimate_made : Board → Log → ℕ → Option ℕ
estimate_made k l target =
    let c = column_of k target in
    cond (eqb target 0) None (sums_down_to 0 (column_made in_confirmed k l c 0 buckets) (column_made in_resolved k l c 0 buckets)).rate

-- ---- the promise

-- what the calls answer where a run has come to
pub record Answered (k : Board) (l : Log) (x : Held) : Type 0 where
  pub answers_are : (c : Call) → (outcome_of k c x).answer ≡ foretold k l x c
  -- an estimate is document 01's, of the stored counts
  pub estimates_are : (target : Blocks) → estimate_call k x.state x.memory.confirmed x.memory.resolved target
      ≡ rate_answer (estimate k target.0 x.memory.confirmed x.memory.resolved)
  -- an estimate of the stored counts is one of the counts that the log makes
  pub estimates_made : (target : ℕ) → estimate k target x.memory.confirmed x.memory.resolved ≡ estimate_made k l target

-- every run with rising blocks is answered so
unfoldable pub AnswerPromise : Board → Type 0
AnswerPromise k = (m : Lent) → (start_call k m).answer ≡ done → (cs : List Call) → AllTyped cs → Rising (calls k m cs).log → Answered k (singly (calls k m cs).log) (calls k m cs)

-- ---- what every run comes to, whether its blocks rise or not

-- The memory m that was lent at the start, with the estimator of the log laid into it; and it is sound.
pub record Follows (k : Board) (m : Lent) (x : Held) : Type 0 where
  pub state_is : x.state ≡ state_of (run k x.log)
  pub memory_is : x.memory ≡ lay k (run k x.log) m
  pub sound_is : sound k x.state x.memory ≡ true

-- every run from a fresh start follows its log
unfoldable pub RunPromise : Board → Type 0
RunPromise k = (m : Lent) → (start_call k m).answer ≡ done → (cs : List Call) → AllTyped cs → Follows k m (calls k m cs)

-- ---- restatements, where blocks rise: each follows from the definitions of Fates.antt and from `Meant`

-- counted at some height
unfoldable pub is_counted : Kind → Fate → Bool
is_counted which undecided = false
is_counted which withdrawn = false
is_counted which (counted h y) = of_kind which y

-- the tallies of all heights together
unfoldable pub total : (ℕ → ℕ) → Log → ℕ
total n begin = 0
total n (l ▸ arrival i rate e) = total n l
total n (l ▸ removal i) = total n l
total n (l ▸ block ids h) = n h + total n l

-- two sentences of demand 3 in other words
pub record Restated (k : Board) (l : Log) (x : Held) : Type 0 where
  -- "once": an admission is in the tallies of all heights together once if it has been counted, and otherwise not at all
  pub once : (which : Kind) (b c : ℕ) → 1 ≤ c → c ≤ columns → total (tally which k (admissions l) b c) l ≡ count (λ a. eqb b a.bucket && is_counted which (fate_of k c a)) (admissions l)
  -- "It has gone by the first such height of e + 25 or more": after a block nothing is pending whose time has come
  pub gone : (g : Log) (ids : List Id) (h : ℕ) → l ≡ g ▸ block ids h
      → count (λ r. leb (r.entry + k.width * columns) h) (pending_records k x.state.pending x.memory.pending) ≡ 0

-- they hold of every run with rising blocks
unfoldable pub RestatePromise : Board → Type 0
RestatePromise k = (m : Lent) → (start_call k m).answer ≡ done → (cs : List Call) → AllTyped cs → Rising (calls k m cs).log → Restated k (singly (calls k m cs).log) (calls k m cs)
