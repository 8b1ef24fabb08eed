-- `table::remove` meets its contract. Assumes nothing.
use Prim.Native.Nat.{◌+◌, ◌*◌, ◌≤◌}
use native.Mathlib.Omega.{arith}
use Rattle.ids.proofs.Records.{record_end}
use Rattle.table.proofs.Laid.{remove_bytes}
use Rattle.table.proofs.remove.Goals as goal
use Rattle.table.proofs.remove.Goals.{Start}

end : (s : Start) → s.args.at * s.args.size + s.args.size ≤ s.args.used * s.args.size
end s = record_end s.args.size s.args.used s.args.at s.requires.0

pub overflow_mul-from : goal.overflow_mul-from
overflow_mul-from c = omega (arith, end (goal.at.overflow_mul-from c).Start)

pub overflow_sub-end : goal.overflow_sub-end
overflow_sub-end c = omega (arith, end (goal.at.overflow_sub-end c).Start)

pub overflow_sub-end-2 : goal.overflow_sub-end-2
overflow_sub-end-2 c = omega (arith, end (goal.at.overflow_sub-end-2 c).Start)

pub shift_down-requires : goal.shift_down-requires
shift_down-requires c = omega (arith, end (goal.at.shift_down-requires c).Start)

pub overflow_sub-end-3 : goal.overflow_sub-end-3
overflow_sub-end-3 c = omega (arith, end (goal.at.overflow_sub-end-3 c).Start)

pub returns : goal.returns
returns c =
    cc (remove_bytes c.args.size c.args.used c.args.at c.args.table.now c.requires.0 c.requires.1)
