-- Why each premise is needed: without it the stored counts are not what the log makes, in three runs of the calls' definitions, computed; nor is success between
-- none and all, nor a report its height's tallies; and the cause of the third. Assumes nothing.
use mathlib.Core.Path.{◌≡◌, refl, sym, ap, ◌∙◌, subst}
use mathlib.Core.Bool.{not}
use mathlib.Core.List.{List, [], ◌∷◌, ◌++◌}
use Prim.Native.Nat.{ℕ, suc, ◌-◌, ◌≤◌}
use native.Mathlib.Omega.{arith}
use borrow.Author.Tests.{le-ltb}
use lib.Dec.{T, eqb, eqb_refl, eqb→eq, T_not, lit<, lit≤}
use lib.Ieee.{Float, binary64, add, mul, div, le, to_bits}
use Rattle.kinds.specs.declared.Height.{Height}
use Rattle.std.specs.Prelude.{Some}
use Rattle.rules.specs.Ids.{Id}
use Rattle.rules.specs.Counts.{columns, decimal, nought, one, cell}
use Rattle.rules.specs.Board.{Board, base}
use Rattle.rules.specs.Estimator.{Estimator, advances, advance_heights, skip_heights, confirm_all, finish_block, block_connected}
use Rattle.rules.specs.Estimate.{Sums}
use Rattle.rules.proofs.Edge.{id}
use Rattle.meaning.specs.Runs.{begin, last_of, Rising, singly, Call, Held, after_all, started, calls}
use Rattle.meaning.specs.Fates.{Kind, in_resolved, in_confirmed, count_of, Meant}
use Rattle.meaning.specs.Report.{report_of, heights_of, tallies}
use Rattle.meaning.specs.Success.{sums_at, RatioWithin, Success}
use Rattle.meaning.proofs.Computed.{compute_runs, compute_logs}
use Rattle.witness.proofs.Dirty.{dirty, enters, connects}

-- both counts of a kind for bucket 33 and column c, as their patterns: what is stored, and what the log makes
abbrev stored_in : Kind → Held → ℕ → ℕ
stored_in in_resolved x c = to_bits binary64 (cell x.memory.resolved 33 c)
stored_in in_confirmed x c = to_bits binary64 (cell x.memory.confirmed 33 c)

abbrev log_makes : Kind → Held → ℕ → ℕ
log_makes which x c = to_bits binary64 (count_of which base (singly x.log) 33 c)

-- a run whose stored counts are not what its log makes
pub record Breaks (which : Kind) (x : Held) (c : ℕ) (is should-be : Float) : Type 0 where
  pub stores : T (eqb (stored_in which x c) (to_bits binary64 is))
  pub expected : T (eqb (log_makes which x c) (to_bits binary64 should-be))
  pub differ : T (not (eqb (to_bits binary64 is) (to_bits binary64 should-be)))

-- so the promise does not hold of it
pub broken : (which : Kind) (x : Held) (c : ℕ) (is should-be : Float) → Breaks which x c is should-be → 1 ≤ c → c ≤ columns → Meant base (singly x.log) x → ⊥
broken which x c is should-be b low high m = T_not (eqb (to_bits binary64 is) (to_bits binary64 should-be)) b.differ (subst (λ (n : ℕ). T (eqb (to_bits binary64 is) n)) (sym (eqb→eq _ _ b.stores) ∙ same_bits which ∙ eqb→eq _ _ b.expected) (eqb_refl (to_bits binary64 is)))
  where
    same_bits : (w : Kind) → stored_in w x c ≡ log_makes w x c
    same_bits in_resolved = ap (to_bits binary64) (m.resolved_is 33 c (lit< tt) low high)
    same_bits in_confirmed = ap (to_bits binary64) (m.confirmed_is 33 c (lit< tt) low high)

-- ---- blocks that do not rise

-- a block at the last height again: it counts, and nothing decays
abbrev again : Held
again = calls base dirty (enters 1 5000 100 ∷ connects (id 1) 101 ∷ enters 2 5000 100 ∷ connects (id 2) 101 ∷ [])

-- 0.998 + 1.0, where two blocks of 101 would make (2 * 0.998 + 2) * 0.998
pub again_breaks : Breaks in_confirmed again 1 (decimal 1998 1000) (mul binary64 (add binary64 (decimal 1996 1000) (decimal 2 1)) (decimal 998 1000))
unfolding compute_runs compute_logs
again_breaks = record { stores = tt; expected = tt; differ = tt }

pub again_is_not_meant : Meant base (singly again.log) again → ⊥
again_is_not_meant = broken in_confirmed again 1 _ _ again_breaks (lit≤ tt) (lit≤ tt)

-- document 01's block 103 at the last height 105: confirmed for target 3, which height 105 has resolved
abbrev back : Held
back = calls base dirty (enters 1 5000 100 ∷ connects [] 105 ∷ connects (id 1) 103 ∷ [])

-- counted confirmed, long after it was counted resolved
pub back_breaks : Breaks in_confirmed back 3 (decimal 1 1) nought
unfolding compute_runs compute_logs
back_breaks = record { stores = tt; expected = tt; differ = tt }

pub back_is_not_meant : Meant base (singly back.log) back → ⊥
back_is_not_meant = broken in_confirmed back 3 _ _ back_breaks (lit≤ tt) (lit≤ tt)

-- ---- nor is success between none and all

-- what is stored in bucket 33 for target c: confirmed above resolved
pub record Exceeds (x : Held) (c : ℕ) (confirmed resolved : Float) : Type 0 where
  pub confirmed_is : T (eqb (stored_in in_confirmed x c) (to_bits binary64 confirmed))
  pub resolved_is : T (eqb (stored_in in_resolved x c) (to_bits binary64 resolved))
  pub not_in_order : T (not (le (cell x.memory.confirmed 33 c) (cell x.memory.resolved 33 c)))

-- the targets that height 105 resolved and block 103 confirmed
pub back_exceeds : Exceeds back 3 (decimal 1 1) (decimal 998 1000) × (Exceeds back 4 (decimal 1 1) (decimal 998 1000) × Exceeds back 5 (decimal 1 1) (decimal 998 1000))
unfolding compute_runs
back_exceeds = (
  record { confirmed_is = tt; resolved_is = tt; not_in_order = tt },
  (
    record { confirmed_is = tt; resolved_is = tt; not_in_order = tt },
    record { confirmed_is = tt; resolved_is = tt; not_in_order = tt },
  ),
)

pub back_is_no_success : Success base back.memory.confirmed back.memory.resolved → ⊥
back_is_no_success s = T_not (le (cell back.memory.confirmed 33 3) (cell back.memory.resolved 33 3)) back_exceeds.0.not_in_order (s.counts 33 3 (lit< tt) (lit≤ tt) (lit≤ tt)).order

-- with two such ids the resolved sum is above 1.0, and the estimate forms the ratio 2.0 over 1.996
abbrev both_back : Held
both_back = calls base dirty (enters 1 5000 100 ∷ enters 2 5000 100 ∷ connects [] 105 ∷ connects (id 1 ++ id 2) 103 ∷ [])

abbrev sums_back : Sums
sums_back = sums_at base 3 33 both_back.memory.confirmed both_back.memory.resolved

pub record RatioAbove (s : Sums) (confirmed resolved : Float) : Type 0 where
  pub confirmed_is : T (eqb (to_bits binary64 s.confirmed) (to_bits binary64 confirmed))
  pub resolved_is : T (eqb (to_bits binary64 s.resolved) (to_bits binary64 resolved))
  pub formed : T (le one s.resolved)
  pub above : T (not (le (div binary64 s.confirmed s.resolved) one))

pub ratio_back : RatioAbove sums_back (decimal 2 1) (decimal 1996 1000)
unfolding compute_runs sums_at
ratio_back = record { confirmed_is = tt; resolved_is = tt; formed = tt; above = tt }

pub ratio_is_no_success : Success base both_back.memory.confirmed both_back.memory.resolved → ⊥
unfolding RatioWithin
ratio_is_no_success s = T_not (le (div binary64 sums_back.confirmed sums_back.resolved) one) ratio_back.above (s.ratios 3 33 (lit≤ tt) (lit< tt) ratio_back.formed).1

-- ---- nor is a report its height's tallies

-- the second block at 101 reports its own id, where the height's tallies have both
abbrev before_again : Held
before_again = calls base dirty (enters 1 5000 100 ∷ connects (id 1) 101 ∷ enters 2 5000 100 ∷ [])

pub again_reports : report_of base (connects (id 2) 101) before_again ∷ tallies base (singly again.log) (heights_of (last_of before_again.log) (id 2 ∷ []) 101) ∷ [] ≡ 25 ∷ 50 ∷ []
unfolding compute_runs compute_logs
again_reports = refl

-- ---- no fresh start: the incident

-- A block that is not above the last height lists ids, and that is all: no height is advanced, so nothing expires, decays or is pruned.
pub stands_still : (k : Board) (ids : List Id) (B : ℕ) (s : Estimator) (L : Height) → s.last ≡ Some L → B ≤ L.0 → block_connected k ids B s ≡ confirm_all k B ids s
unfolding block_connected finish_block advances skip_heights advance_heights
stands_still k ids B s L e h =
    let none : B - suc L.0 ≡ 0 = omega arith in
    rw (e, le-ltb L.0 B h, none)

-- what a caller has after a restored history that is empty but for its last height
abbrev pub restored : ℕ → Held
restored h = let x = started base dirty in record { state = record { last = Some (record { 0 = h }); pending = 0; recent = 0 }; memory = x.memory; log = begin }

-- Of two ids of one rate the next block confirms one.
abbrev pub next_block : List Call
next_block = enters 1 5000 850000 ∷ enters 2 5000 850000 ∷ connects (id 1) 850001 ∷ []

abbrev pub incident : Held
incident = after_all base next_block (restored 1000000)

-- resolved for target 1: only the one that was confirmed, where the log has both
pub incident_breaks : Breaks in_resolved incident 1 (decimal 1 1) (decimal 1996 1000)
unfolding compute_runs compute_logs
incident_breaks = record { stores = tt; expected = tt; differ = tt }

-- though its blocks rise
pub incident_rises : Rising incident.log
unfolding compute_runs
incident_rises = (tt, tt)

pub incident_is_not_meant : Meant base (singly incident.log) incident → ⊥
incident_is_not_meant = broken in_resolved incident 1 _ _ incident_breaks (lit≤ tt) (lit≤ tt)
