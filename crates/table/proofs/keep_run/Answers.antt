-- `table::keep_run` meets its contract: the records have been moved down, or stand where they belong. Assumes nothing.
use mathlib.Core.Path.{refl, ◌∙◌}
use Prim.Native.Nat.{◌*◌, ◌≤◌}
use native.Mathlib.Nat.{mul-le-mul_right}
use native.Mathlib.Omega.{arith}
use Rattle.table.proofs.Runs.{run_still}
use Rattle.table.proofs.keep_run.Goals as goal
use Rattle.table.proofs.keep_run.Goals.{Start, then-k-from, else-k-from}

-- the three places, in bytes
order : (s : Start) → (s.args.k * s.args.size ≤ s.args.from * s.args.size) × (s.args.from * s.args.size ≤ s.args.to * s.args.size)
order s = (mul-le-mul_right s.args.size s.requires.1.0, mul-le-mul_right s.args.size s.requires.1.1.0)

pub returns : goal.returns
returns c = record {
  value = refl;
  table_after = elim c.if-k-from.branch [
    | then-k-from w ↦ w.table-is ∙ w.shift_down.ensures
    | else-k-from w ↦ w.table-is ∙ run_still _ _ _ _ _ (omega arith)
  ];
}

pub overflow_mul-k : goal.overflow_mul-k
overflow_mul-k c = omega (arith, order (goal.at.overflow_mul-k c).Start)

pub overflow_mul-from : goal.overflow_mul-from
overflow_mul-from c = omega (arith, order (goal.at.overflow_mul-from c).Start)

pub overflow_mul-k-then-k-from : goal.overflow_mul-k-then-k-from
overflow_mul-k-then-k-from c = omega (arith, order (goal.at.overflow_mul-k-then-k-from c).Start)

pub overflow_sub-from : goal.overflow_sub-from
overflow_sub-from c = omega (arith, order (goal.at.overflow_sub-from c).Start)

pub overflow_mul-from-then-k-from : goal.overflow_mul-from-then-k-from
overflow_mul-from-then-k-from c = omega (arith, order (goal.at.overflow_mul-from-then-k-from c).Start)

pub overflow_sub-to : goal.overflow_sub-to
overflow_sub-to c = omega (arith, order (goal.at.overflow_sub-to c).Start)

pub shift_down-requires : goal.shift_down-requires
shift_down-requires c = omega (arith, order (goal.at.shift_down-requires c).Start)
