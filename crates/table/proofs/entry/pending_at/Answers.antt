-- `table::entry::pending_at` meets its contract: record number i ends within the table, and each field is read where it stands in the record. Assumes nothing.
use mathlib.Core.Path.{◌∙◌}
use Prim.Native.Nat.{◌+◌, ◌*◌, ◌≤◌}
use native.Mathlib.Omega.{arith}
use Rattle.ids.proofs.Records.{record_end}
use Rattle.table.proofs.Fields.{field_record}
use Rattle.rules.specs.Board.{pending_of}
use Rattle.table.proofs.entry.pending_at.Goals as goal
use Rattle.table.proofs.entry.pending_at.Goals.{Start}

end : (s : Start) → s.args.i * s.args.size + s.args.size ≤ s.args.used * s.args.size
end s = record_end s.args.size s.args.used s.args.i s.requires.1.0

pub overflow_mul-at : goal.overflow_mul-at
overflow_mul-at c = omega (arith, end (goal.at.overflow_mul-at c).Start)

pub overflow_add-at : goal.overflow_add-at
overflow_add-at c = omega (arith, end (goal.at.overflow_add-at c).Start)

pub u32_le-b-requires : goal.u32_le-b-requires
u32_le-b-requires c = omega (arith, end (goal.at.u32_le-b-requires c).Start)

pub overflow_add-at-2 : goal.overflow_add-at-2
overflow_add-at-2 c = omega (arith, end (goal.at.overflow_add-at-2 c).Start)

pub u32_le-e-requires : goal.u32_le-e-requires
u32_le-e-requires c = omega (arith, end (goal.at.u32_le-e-requires c).Start)

pub overflow_add-at-3 : goal.overflow_add-at-3
overflow_add-at-3 c = omega (arith, end (goal.at.overflow_add-at-3 c).Start)

pub u32_le-t-requires : goal.u32_le-t-requires
u32_le-t-requires c = omega (arith, end (goal.at.u32_le-t-requires c).Start)

pub returns : goal.returns
unfolding pending_of
returns c = record { bucket_value = c.u32_le-b.ensures ∙ field_record c.args.size 32 c.args.used c.args.i c.args.table.now (omega arith) c.requires.1.0 c.requires.1.1; result_value = c.u32_le-e.ensures ∙ field_record c.args.size 36 c.args.used c.args.i c.args.table.now (omega arith) c.requires.1.0 c.requires.1.1; through_value = c.u32_le-t.ensures ∙ field_record c.args.size 40 c.args.used c.args.i c.args.table.now (omega arith) c.requires.1.0 c.requires.1.1 }
