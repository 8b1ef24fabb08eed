-- `table::keep_record` meets its contract: a record that stays has been moved down, or stands where it belongs. Assumes nothing.
use mathlib.Core.Path.{◌∙◌}
use Prim.Native.Nat.{◌*◌, ◌≤◌}
use native.Mathlib.Nat.{mul-le-mul_right, mul-le-mul_left}
use native.Mathlib.Omega.{arith}
use Rattle.table.proofs.Keeping.{moved_stays, moved_still, moved_goes}
use Rattle.table.proofs.keep_record.Goals as goal
use Rattle.table.proofs.keep_record.Goals.{Start, then-k-i, else-k-i}

order : (s : Start) → s.args.k * s.args.size ≤ s.args.i * s.args.size
order s = mul-le-mul_right s.args.size s.requires.1.0

pub returns-then-not-stays : goal.returns-then-not-stays
returns-then-not-stays c =
    moved_goes (λ _. c.args.stays) c.args.size c.args.k c.args.i c.args.table.now c.if-not-stays.true

pub returns : goal.returns
returns c =
    elim c.if-k-i.branch [
      | then-k-i w ↦ rw (w.table-is ∙ w.shift_down.ensures) (moved_stays (λ _. c.args.stays) c.args.size c.args.k c.args.i c.args.table.now c.requires.1.0 c.requires.1.1 c.if-not-stays.false)
      | else-k-i w ↦ rw w.table-is (moved_still (λ _. c.args.stays) c.args.size c.args.k c.args.i c.args.table.now (omega arith) c.if-not-stays.false)
    ]

pub overflow_mul-k : goal.overflow_mul-k
overflow_mul-k c = omega (arith, order (goal.at.overflow_mul-k c).Start)

pub overflow_mul-k-then-k-i : goal.overflow_mul-k-then-k-i
overflow_mul-k-then-k-i c = omega (arith, order (goal.at.overflow_mul-k-then-k-i c).Start)

pub overflow_sub-i : goal.overflow_sub-i
overflow_sub-i c = order (goal.at.overflow_sub-i c).Start

pub shift_down-requires : goal.shift_down-requires
shift_down-requires c = omega (arith, order (goal.at.shift_down-requires c).Start)

pub overflow_add-result : goal.overflow_add-result
overflow_add-result c = (omega (arith, mul-le-mul_left c.args.i c.requires.0))
