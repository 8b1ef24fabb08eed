-- How much counting a run can cause (document 02, L11): what a block reports is the resolved tallies of the heights that it processes, and all reports together are
-- at most 25 times the admissions. Assumes nothing.
use Rattle.std.specs.Prelude.{◌≡◌, ℕ, suc, ◌+◌, ◌*◌, ◌≤◌, cond, List, [], ◌∷◌, eqb, length}
use Rattle.kinds.specs.declared.Height.{Height}
use Rattle.kinds.specs.Last.{Last}
use Rattle.kinds.specs.Answers.{done}
use Rattle.rules.specs.Ids.{Id}
use Rattle.rules.specs.Ladder.{buckets}
use Rattle.rules.specs.Counts.{columns}
use Rattle.rules.specs.Board.{Board}
use Rattle.rules.specs.Report.{sum, adds}
use Rattle.rules.specs.Memory.{Lent}
use Rattle.rules.specs.Calls.{start_call, ids_of, block_call, block_report}
use Rattle.meaning.specs.Runs.{arrival, removal, block, Log, begin, ◌▸◌, last_of, Above, Rising, skipped, singly, Call, enter, leave, connect, AllTyped, Held, after, started, calls}
use Rattle.meaning.specs.Fates.{admissions, in_resolved, tally}
use Rattle.meaning.specs.Answered.{run, total}

-- ---- the reports of a run

-- what a call reports: only a block does
unfoldable pub report_of : Board → Call → Held → ℕ
report_of k (enter i rate h) x = 0
report_of k (leave i) x = 0
report_of k (connect ids h) x = block_report k x.state x.memory ids h

-- what some calls report together
unfoldable pub reports : Board → List Call → Held → ℕ
reports k [] x = 0
reports k (c ∷ cs) x = report_of k c x + reports k cs (after k c x)

-- ---- and by the log

-- what the blocks of a log report together, by document 01's steps
unfoldable pub log_reports : Board → Log → ℕ
log_reports k begin = 0
log_reports k (l ▸ arrival i rate e) = log_reports k l
log_reports k (l ▸ removal i) = log_reports k l
log_reports k (l ▸ block ids B) = adds k ids B (run k l) + log_reports k l

-- "25 times the admissions"
unfoldable pub allowance : Log → ℕ
allowance l = columns * length (admissions l)

-- the heights that a block processes after the last one: each skipped height, and its own
unfoldable pub heights_of : Last → List Id → ℕ → Log
heights_of p ids B = skipped p B begin ▸ block ids B

-- "resolved tallies as demand 3 defines them, over all buckets and targets": those that the log l makes at the heights of m
unfoldable pub tallies : Board → Log → Log → ℕ
tallies k l m = sum columns (λ c. sum buckets (λ b. total (tally in_resolved k (admissions l) b (suc c)) m))

-- ---- the promise

-- what is reported where a run has come to
pub record Reported (k : Board) (x : Held) : Type 0 where
  -- "A refused call reports 0. Otherwise it equals the tallies of document 01's steps": over the log
  pub by_steps : (ids : List ℕ) (h : Height)
      → block_report k x.state x.memory ids h ≡ cond (eqb (block_call k x.state x.memory ids h).answer.number 0) (adds k (ids_of ids) h.0 (run k x.log)) 0
  -- "The report equals the sum of that call's resolved tallies": of a block that is accepted and above the last one
  pub by_tallies : (ids : List ℕ) (h : Height) → (block_call k x.state x.memory ids h).answer ≡ done → Above (last_of x.log) h.0
      → block_report k x.state x.memory ids h ≡ tallies k (singly (x.log ▸ block (ids_of ids) h.0)) (heights_of (last_of x.log) (ids_of ids) h.0)
  -- what the log's blocks report together grows by the report of each call
  pub adds_up : (c : Call) → log_reports k (after k c x).log ≡ report_of k c x + log_reports k x.log
  -- "the sum of all reports is at most 25 times the admissions"
  pub bounded : log_reports k x.log ≤ allowance x.log

-- every run with rising blocks reports so
unfoldable pub ReportPromise : Board → Type 0
ReportPromise k = (m : Lent) → (start_call k m).answer ≡ done → (cs : List Call) → AllTyped cs → Rising (calls k m cs).log → Reported k (calls k m cs)

-- "Over any run from fresh .. the sum of all reports is at most 25 times the admissions." (Its blocks need not rise.)
unfoldable pub BoundPromise : Board → Type 0
BoundPromise k = (m : Lent) → (start_call k m).answer ≡ done → (cs : List Call) → AllTyped cs → reports k cs (started k m) ≤ allowance (calls k m cs).log
