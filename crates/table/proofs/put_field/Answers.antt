-- `table::put_field` meets its contract. Assumes nothing.
use mathlib.Core.Path.{◌∙◌}
use Prim.Native.Nat.{◌+◌, ◌*◌, ◌≤◌}
use native.Mathlib.Omega.{arith}
use Rattle.ids.proofs.Records.{record_end}
use Rattle.table.proofs.Laid.{field_bytes}
use Rattle.table.proofs.put_field.Goals as goal
use Rattle.table.proofs.put_field.Goals.{Start}

end : (s : Start) → s.args.i * s.args.size + s.args.size ≤ s.args.used * s.args.size
end s = record_end s.args.size s.args.used s.args.i s.requires.0

pub overflow_mul-i : goal.overflow_mul-i
overflow_mul-i c = omega (arith, end (goal.at.overflow_mul-i c).Start)

pub overflow_add-i : goal.overflow_add-i
overflow_add-i c = omega (arith, end (goal.at.overflow_add-i c).Start)

pub put_u32-requires : goal.put_u32-requires
put_u32-requires c = omega (arith, end (goal.at.put_u32-requires c).Start)

pub returns : goal.returns
returns c =
    c.put_u32.ensures ∙ field_bytes c.args.size c.args.used c.args.i c.args.off c.args.v c.args.table.now c.requires.0 c.requires.1.0 c.requires.1.1
