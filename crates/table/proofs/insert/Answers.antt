-- `table::insert` meets its contract. Assumes nothing.
use Prim.Native.Nat.{◌*◌, ◌≤◌}
use native.Mathlib.Omega.{arith}
use native.Mathlib.Nat.{mul-le-mul_right}
use Rattle.table.proofs.Laid.{insert_bytes}
use Rattle.table.proofs.insert.Goals as goal
use Rattle.table.proofs.insert.Goals.{Start}

hole : (s : Start) → s.args.at * s.args.size ≤ s.args.used * s.args.size
hole s = mul-le-mul_right s.args.size s.requires.at_le_used.0

pub overflow_mul-at : goal.overflow_mul-at
overflow_mul-at c = omega (arith, hole (goal.at.overflow_mul-at c).Start)

pub shift_up-requires : goal.shift_up-requires
shift_up-requires c = omega (arith, hole (goal.at.shift_up-requires c).Start)

pub overflow_mul-at-2 : goal.overflow_mul-at-2
overflow_mul-at-2 c = omega (arith, hole (goal.at.overflow_mul-at-2 c).Start)

pub put_bytes-requires : goal.put_bytes-requires
put_bytes-requires c = omega (arith, hole (goal.at.put_bytes-requires c).Start, c.shift_up.auto.a)

pub returns : goal.returns
returns c =
    cc (insert_bytes c.args.size c.args.used c.args.at c.args.table.now c.args.rec.now c.requires.rec_len c.requires.at_le_used.0 c.requires.at_le_used.1)
