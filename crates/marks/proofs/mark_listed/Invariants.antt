-- `marks::mark_listed` meets its contract. Assumes nothing.
use mathlib.Core.Path.{◌≡◌}
use Rattle.std.specs.Slice.Iter.{chunks_exact_rest, chunks_exact_size}
use Rattle.marks.proofs.Noting.{Marking}
use Rattle.marks.proofs.mark_listed.Given as goal

abbrev pub invariant-loop-id : goal.invariant-loop-id
invariant-loop-id l = (chunks_exact_size l.id-iterator ≡ 32) × Marking l.size l.used l.table l.ids l.initial.marks (chunks_exact_rest l.id-iterator) l.marks
