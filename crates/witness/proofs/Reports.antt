-- What blocks report, computed: by document 01's steps over a log, as the tallies of the block's heights, and together. The bound is reached by a listing and by waiting,
-- and not if an id is removed; and the bound is applied to the log of `Eventful`. Assumes nothing.
use Prim.Native.Nat.{ℕ, ◌≤◌}
use mathlib.Core.Path.{◌≡◌, refl}
use mathlib.Core.List.{List, [], ◌∷◌, ◌++◌}
use lib.ListN.{replicate}
use Rattle.rules.specs.Ids.{Id}
use Rattle.rules.specs.Board.{Board, base, wide}
use Rattle.rules.specs.Report.{adds}
use Rattle.rules.proofs.Edge.{id}
use Rattle.meaning.specs.Runs.{arrival, removal, block, Log, begin, ◌▸◌, last_of, empties, singly}
use Rattle.meaning.specs.Answered.{run}
use Rattle.meaning.specs.Report.{log_reports, allowance, heights_of, tallies}
use Rattle.meaning.proofs.Computed.{compute_logs}
use Rattle.meaning.proofs.Bound.{bound}
use Rattle.witness.proofs.Eventful.{taken}

-- what a block after a log reports: by the steps, and by the tallies of its heights
abbrev both_ways : Board → Log → List Id → ℕ → List ℕ
both_ways k l ids B = adds k ids B (run k l) ∷ tallies k (singly (l ▸ block ids B)) (heights_of (last_of l) ids B) ∷ []

-- what each block of a log reports, the latest first
unfoldable pub each : Board → Log → List ℕ
each k begin = []
each k (l ▸ arrival i rate e) = each k l
each k (l ▸ removal i) = each k l
each k (l ▸ block ids B) = adds k ids B (run k l) ∷ each k l

-- all of them together, and 25 times the admissions
abbrev together : Board → Log → List ℕ
together k l = log_reports k l ∷ allowance l ∷ []

-- ---- one admission

abbrev entered : Log
entered = begin ▸ arrival (id 1) 5000 100

-- listed by the first block: all columns at once, and that is all that is allowed
pub at_once : both_ways base entered (id 1 ∷ []) 101 ++ together base (entered ▸ block (id 1 ∷ []) 101) ≡ 25 ∷ 25 ∷ 25 ∷ 25 ∷ []
unfolding compute_logs
at_once = refl

-- left alone: one at each height from 101 to 125, and then none
pub one_by_one : each base (empties 100 26 entered) ++ together base (empties 100 26 entered) ≡ 0 ∷ replicate 25 1 ++ (25 ∷ 25 ∷ [])
unfolding compute_logs each
one_by_one = refl

-- two heights are skipped, and the block that skips them reports them
abbrev since_100 : Log
since_100 = begin ▸ block [] 100 ▸ arrival (id 1) 5000 100

pub over_a_gap : both_ways base since_100 [] 103 ≡ 3 ∷ 3 ∷ []
unfolding compute_logs
over_a_gap = refl

-- on the wide board two columns are outwaited at 112, and not at 111
pub over_a_wide_gap : both_ways wide since_100 [] 111 ++ both_ways wide since_100 [] 112 ≡ 1 ∷ 1 ∷ 2 ∷ 2 ∷ []
unfolding compute_logs
over_a_wide_gap = refl

-- ---- more of them

-- of two the second is removed before anything of it was counted: the bound is not reached
pub removed_before : together base (entered ▸ arrival (id 2) 5000 100 ▸ removal (id 2) ▸ block (id 1 ∷ []) 101) ≡ 25 ∷ 50 ∷ []
unfolding compute_logs
removed_before = refl

-- The life of `Eventful`. At 101 the first id and one column of the second, which then goes with 24 uncounted; up to 104 the first again, and the third, which came late; at
-- 105 the fourth, and the last column of the third.
pub eventful : each base taken ++ together base taken ≡ 26 ∷ 49 ∷ 26 ∷ 101 ∷ 125 ∷ []
unfolding compute_logs each
eventful = refl

-- what is promised of it
pub promised : log_reports base taken ≤ allowance taken
promised = bound base taken
