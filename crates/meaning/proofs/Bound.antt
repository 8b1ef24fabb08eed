-- The reports of a run are at most 25 times its admissions, whether its blocks rise or not: what the pending records have left pays for each addition
-- (rules/proofs/Paid.antt), and only an admission brings more of it, 25 at most. Assumes nothing.
use mathlib.Core.Path.{◌≡◌, ap}
use mathlib.Core.Bool.{Bool, true, false, not, ◌||◌, cond}
use mathlib.Core.List.{List, [], ◌∷◌}
use Prim.Native.Nat.{ℕ, ◌+◌, ◌≤◌, zero-le}
use native.Mathlib.Omega.{arith}
use lib.Dec.{leb, eqb}
use lib.ListN.{length, length-map}
use Rattle.rules.specs.Lists.{keep, insert}
use Rattle.rules.specs.Ids.{Id, same, below, dropped, placed}
use Rattle.rules.specs.Counts.{columns}
use Rattle.rules.specs.Board.{Board, Pending, Lawful, pending_most}
use Rattle.rules.specs.Estimator.{fresh, is_pending, admit, tx_entered, tx_left}
use Rattle.rules.specs.Report.{additions, adds}
use Rattle.rules.specs.Memory.{Lent, view}
use Rattle.rules.specs.Calls.{ids_of, block_call, block_report}
use Rattle.rules.proofs.Well.{newcomer}
use Rattle.rules.proofs.Sums.{gained_above}
use Rattle.rules.proofs.Paid.{left, left_keep, left_insert, paid}
use Rattle.meaning.specs.Runs.{arrival, removal, block, Log, begin, ◌▸◌, Call, enter, leave, connect, AllTyped, event_of, Held, outcome_of, noted, after, after_all, started, calls}
use Rattle.meaning.specs.Fates.{later, admissions}
use Rattle.meaning.specs.Answered.{run}
use Rattle.meaning.specs.Report.{report_of, reports, log_reports, allowance, BoundPromise}
use Rattle.meaning.proofs.Leading.{Comes, seen, comes_start, comes_after}

-- ---- over a log

-- an admission brings what a record has left that nothing has resolved
brings : (i : Id) (rate h : ℕ) (rs : List Pending) → left (admit i rate h rs) ≤ columns + left rs
unfolding admit placed dropped
brings i rate h rs = go (is_pending i rs || leb pending_most (length rs))
  where
    others : List Pending
    others = keep (λ r. not (same r.id i)) rs

    go : (b : Bool) → left (cond b rs (insert (λ x y. below x.id y.id) (newcomer i rate h) others)) ≤ columns + left rs
    go true = omega arith
    go false = omega (arith, left_insert (λ x y. below x.id y.id) (newcomer i rate h) others, left_keep (λ r. not (same r.id i)) rs, gained_above 0)

module _ (k : Board) where
  -- what is reported and what is left to be counted
  paid_for : (l : Log) → log_reports k l + left (run k l).pending ≤ allowance l
  unfolding log_reports allowance run fresh tx_entered tx_left admissions dropped additions
  paid_for begin = zero-le
  paid_for (l ▸ arrival i rate e) = omega (arith, paid_for l, brings i rate e (run k l).pending, length-map (admissions l) (later (arrival i rate e)))
  paid_for (l ▸ removal i) = omega (arith, paid_for l, left_keep (λ r. not (same r.id i)) (run k l).pending, length-map (admissions l) (later (removal i)))
  paid_for (l ▸ block ids B) = omega (arith, paid_for l, paid k ids B (run k l), length-map (admissions l) (later (block ids B)))

  pub bound : (l : Log) → log_reports k l ≤ allowance l
  bound l = omega (arith, paid_for l)

  -- ---- over the calls

  module _ (law : Lawful k) (m : Lent) where
    pub one_call : (c : Call) (x : Held) → Comes k m x → log_reports k (after k c x).log ≡ report_of k c x + log_reports k x.log
    unfolding report_of after noted event_of log_reports block_report outcome_of
    one_call (enter i rate h) x v = go (eqb (outcome_of k (enter i rate h) x).answer.number 0)
      where
        go : (b : Bool) → log_reports k (cond b (x.log ▸ arrival i rate.0 h.0) x.log) ≡ 0 + log_reports k x.log
        go true = omega arith
        go false = omega arith
    one_call (leave i) x v = go (eqb (outcome_of k (leave i) x).answer.number 0)
      where
        go : (b : Bool) → log_reports k (cond b (x.log ▸ removal i) x.log) ≡ 0 + log_reports k x.log
        go true = omega arith
        go false = omega arith
    one_call (connect ids h) x v = go (eqb (block_call k x.state x.memory ids h).answer.number 0)
      where
        go : (b : Bool) → log_reports k (cond b (x.log ▸ block (ids_of ids) h.0) x.log) ≡ cond b (adds k (ids_of ids) h.0 (view k x.state x.memory)) 0 + log_reports k x.log
        go true = omega (arith, ap (adds k (ids_of ids) h.0) (seen k law m x v))
        go false = omega arith

    all_calls : (cs : List Call) → AllTyped cs → (x : Held) → Comes k m x → log_reports k (after_all k cs x).log ≡ reports k cs x + log_reports k x.log
    unfolding reports after_all AllTyped
    all_calls [] t x v = omega arith
    all_calls (c ∷ cs) t x v = omega (arith, one_call c x v, all_calls cs t.1 (after k c x) (comes_after k law m x v c t.0))

pub bound_promise : (k : Board) → Lawful k → BoundPromise k
unfolding BoundPromise calls started log_reports
bound_promise k law m e cs t = omega (arith, all_calls k law m cs t (started k m) (comes_start k m e), bound k (calls k m cs).log)
