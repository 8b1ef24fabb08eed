use mathlib.Core.Path.{◌≡◌}
use Prim.Native.Nat.{suc, ◌-◌}
use native.Mathlib.Omega.{arith}
use Rattle.merges.proofs.Turns.{merging_start, none_left, table_fits, mark_there, id_there, merging_skip, merging_turn, merging_stop}
use Rattle.merges.proofs.merge.Goals as goal
use Rattle.merges.proofs.merge.Goals.{In-loop-j}

-- there is a place before this one
next : (c : In-loop-j) → c.loop-j.j ≡ suc (c.loop-j.j - 1)
next c = omega arith

pub loop-j-init : goal.loop-j-init
loop-j-init c = merging_start _ _ _ _ _ _ _ _ c.requires

pub bounds-marks-j : goal.bounds-marks-j
bounds-marks-j c = (mark_there _ _ _ _ _ _ _ _ c.requires c.loop-j.invariant _ (next (goal.at.bounds-marks-j c).In-loop-j))

pub overflow_mul-at : goal.overflow_mul-at
overflow_mul-at c = (omega (arith, id_there _ _ _ _ _ _ _ _ c.requires c.loop-j.invariant _ (next (goal.at.overflow_mul-at c).In-loop-j)))

pub id_at-requires : goal.id_at-requires
id_at-requires c = id_there _ _ _ _ _ _ _ _ c.requires c.loop-j.invariant _ (next (goal.at.id_at-requires c).In-loop-j)

pub place-n-requires : goal.place-n-requires
place-n-requires c = record { left_nonzero = (omega arith, table_fits _ _ _ _ _ _ _ _ c.requires c.loop-j.invariant); recent_value = c.loop-j.invariant.rises }

pub loop-j-preserved-then-marks-j-eq1 : goal.loop-j-preserved-then-marks-j-eq1
loop-j-preserved-then-marks-j-eq1 c =
    merging_turn _ _ _ _ _ _ _ _ c.requires c.loop-j.invariant _ (next (goal.at.loop-j-preserved-then-marks-j-eq1 c).In-loop-j) _ (omega arith) (omega (arith, c.if-marks-j-eq1.true)) _ _ (rw c.id_at.ensures at c.place-n.ensures.value) (rw c.id_at.ensures at c.place-n.ensures.recent_after)

pub loop-j-preserved : goal.loop-j-preserved
loop-j-preserved c = (merging_skip _ _ _ _ _ _ _ _ c.requires c.loop-j.invariant _ (next (goal.at.loop-j-preserved c).In-loop-j) c.if-marks-j-eq1.false)

pub returns-then-left-eq0 : goal.returns-then-left-eq0
returns-then-left-eq0 c = merging_stop _ _ _ _ _ _ _ _ c.requires c.loop-j.invariant c.if-left-eq0.true

pub returns-after-loop-j : goal.returns-after-loop-j
returns-after-loop-j c = merging_stop _ _ _ _ _ _ _ _ c.requires c.loop-j.invariant (none_left _ _ _ _ _ _ _ _ c.requires c.loop-j.invariant (omega arith))

pub overflow_sub-left : goal.overflow_sub-left
overflow_sub-left c = omega arith
