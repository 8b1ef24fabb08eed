-- `table::clear_table` meets its contract: zeros up to the capacity are a table with no record. Assumes nothing.
use mathlib.Core.Path.{◌∙◌}
use Prim.Native.Nat.{◌*◌, ◌≤◌}
use native.Mathlib.Omega.{arith}
use lib.ListN.{length}
use Rattle.rules.specs.Records.{capacity}
use Rattle.rules.proofs.Records.{capacity_room}
use Rattle.table.proofs.Zeros.{none_laid}
use Rattle.table.proofs.clear_table.Goals as goal
use Rattle.table.proofs.clear_table.Goals.{After-capacity-n}

room : (c : After-capacity-n) → c.capacity-n.result * c.args.size ≤ length c.args.table.now
room c = rw c.capacity-n.ensures (capacity_room c.args.size c.args.most c.args.table.now)

pub overflow_mul-n : goal.overflow_mul-n
overflow_mul-n c = omega (arith, room (goal.at.overflow_mul-n c).After-capacity-n)

pub zero-requires : goal.zero-requires
zero-requires c = omega (arith, room (goal.at.zero-requires c).After-capacity-n)

pub returns : goal.returns
returns c =
    c.zero.ensures ∙ rw c.capacity-n.ensures (none_laid c.args.size (capacity c.args.size c.args.most c.args.table.now) c.args.table.now)
