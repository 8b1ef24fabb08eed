-- A run of the public calls' definitions, computed, on memory that was lent dirty: counts that are no numbers, junk in both tables, room for two
-- records in each and some bytes beyond. Assumes nothing.
use Prim.Native.Nat.{ℕ}
use mathlib.Core.Path.{◌≡◌, refl}
use mathlib.Core.Bool.{Bool, ◌&&◌}
use mathlib.Core.List.{List, [], ◌∷◌, ◌++◌}
use lib.Dec.{T}
use lib.ListN.{replicate}
use lib.Ieee.{Float, nan, binary64, mul}
use Rattle.std.specs.Prelude.{Some}
use Rattle.rules.specs.Ids.{same}
use Rattle.rules.specs.Counts.{decimal}
use Rattle.rules.specs.Bytes.{bytes}
use Rattle.rules.specs.Board.{base}
use Rattle.rules.specs.Memory.{Lent, lent}
use Rattle.rules.proofs.Edge.{id, same_counts, only}
use Rattle.meaning.specs.Runs.{arrival, removal, block, Log, begin, ◌▸◌, Call, enter, leave, connect, Held, outcome_of, after, started, calls}
use Rattle.meaning.specs.Report.{report_of}
use Rattle.meaning.proofs.Computed.{compute_runs}

abbrev pub dirty : Lent
dirty = lent (replicate 3551 nan) (replicate 3550 nan) (replicate 100 7) (replicate 80 9)

abbrev pub enters : ℕ → ℕ → ℕ → Call
enters n rate h = enter (id n) (record { 0 = rate }) (record { 0 = h })

abbrev pub connects : List ℕ → ℕ → Call
connects ids h = connect ids (record { 0 = h })

abbrev asked : List Call
asked =
    enters 1 5000 100
    ∷ enters 1 999 100
    ∷ enters 1 5000 100
    ∷ enters 2 5000 100
    ∷ enters 3 999 100
    ∷ enters 3 5000 100
    ∷ leave (id 3)
    ∷ connects (id 1 ++ id 2) 101
    ∷ connects (id 1 ++ (1 ∷ [])) 102
    ∷ enters 4 1000 101
    ∷ leave (id 4)
    ∷ connects [] 4198
    ∷ connects [] 102
    ∷ enters 5 1000 103
    ∷ connects (id 5) 103
    ∷ []

-- the answers of calls
unfoldable pub answers : List Call → Held → List ℕ
answers [] x = []
answers (c ∷ cs) x = (outcome_of base c x).answer.number ∷ answers cs (after base c x)

-- what each of them reports
unfoldable pub reports_of : List Call → Held → List ℕ
reports_of [] x = []
reports_of (c ∷ cs) x = report_of base c x ∷ reports_of cs (after base c x)

-- the calls that were answered 0
abbrev taken : Log
taken =
    begin
    ▸ arrival (id 1) 5000 100
    ▸ arrival (id 2) 5000 100
    ▸ block (id 1 ∷ id 2 ∷ []) 101
    ▸ arrival (id 4) 1000 101
    ▸ removal (id 4)
    ▸ block [] 102
    ▸ arrival (id 5) 1000 103

-- two ones, and two heights
abbrev two : Float
two = mul binary64 (mul binary64 (decimal 2 1) (decimal 998 1000)) (decimal 998 1000)

-- the lent memory in the end: both counts of bucket 33, one pending record, two confirmed records, and what was lent beyond
unfoldable pub left_so : Lent → Bool
left_so m =
    same_counts m.confirmed (only 33 (replicate 25 two) ++ (nan ∷ []))
    && (same_counts m.resolved (only 33 (replicate 25 two))
    && (same m.pending (id 5 ++ bytes 4 0 ++ bytes 4 103 ++ bytes 4 0 ++ replicate 44 0 ++ replicate 12 7)
    && same m.recent (id 1 ++ bytes 4 101 ++ id 2 ++ bytes 4 101 ++ replicate 8 9)))

pub record Ran (x : Held) : Type 0 where
  pub log_is : x.log ≡ taken
  pub state_is : x.state ≡ record { last = Some (record { 0 = 102 }); pending = 1; recent = 2 }
  pub memory_is : T (left_so x.memory)

-- BelowFloor (of a pending id, and on a full table), AlreadyPending, PendingFull, Absent, BadList, GapTooWide, ConfirmedFull, each refused where it must be
pub answered : answers asked (started base dirty) ≡ 0 ∷ 16 ∷ 2 ∷ 0 ∷ 16 ∷ 3 ∷ 4 ∷ 0 ∷ 5 ∷ 0 ∷ 0 ∷ 6 ∷ 0 ∷ 0 ∷ 7 ∷ []
unfolding compute_runs answers
answered = refl

-- The block that lists two ids reports both. Whatever was refused reports 0, the last block too, whose id is pending.
pub reported : reports_of asked (started base dirty) ≡ 0 ∷ 0 ∷ 0 ∷ 0 ∷ 0 ∷ 0 ∷ 0 ∷ 50 ∷ 0 ∷ 0 ∷ 0 ∷ 0 ∷ 0 ∷ 0 ∷ 0 ∷ []
unfolding compute_runs reports_of
reported = refl

pub ran : Ran (calls base dirty asked)
unfolding compute_runs left_so
ran = record { log_is = refl; state_is = refl; memory_is = tt }

-- The last call was refused, since both places are taken by records of height 101. They go at 127, so a block at 128 finds room; id 5, entered at 103, would go at 128.
pub unstuck : (after base (connects (id 5) 128) (calls base dirty asked)).state ≡ record { last = Some (record { 0 = 128 }); pending = 0; recent = 1 }
unfolding compute_runs
unstuck = refl

-- at 127 it finds none
pub still_stuck : answers (connects (id 5) 127 ∷ connects (id 5) 128 ∷ []) (calls base dirty asked) ≡ 7 ∷ 0 ∷ []
unfolding compute_runs answers
still_stuck = refl

-- and reports nothing; at 128 the 24 columns that the skipped heights resolve, and the last one
pub stuck_reports : reports_of (connects (id 5) 127 ∷ connects (id 5) 128 ∷ []) (calls base dirty asked) ≡ 0 ∷ 25 ∷ []
unfolding compute_runs reports_of
stuck_reports = refl
