use mathlib.Core.Path.{◌≡◌, ◌∙◌}
use lib.ListN.{length}
use lib.Seq.{take_all}
use mathlib.Core.List.{◌++◌}
use native.Mathlib.Omega.{arith}
use Rattle.std.specs.Slice.Iter.{chunks_exact_rest}
use Rattle.marks.proofs.Noting.{Marking, marking_none, marking_more, marking_all}
use Rattle.marks.proofs.mark_listed.Goals as goal

pub loop-id-init : goal.loop-id-init
loop-id-init c =
    rw (c.into_iter-id-iterator.ensures.into_iter_gives, c.chunks_exact-id-items.ensures.rest)
    (c.chunks_exact-id-items.ensures.size, marking_none _ _ _ _ _ c.requires.used_in_bounds.1)

pub loop-id-preserved : goal.loop-id-preserved
loop-id-preserved c =
    let next = c.in-Some.ensures.steps in
    let g : Marking c.args.size c.args.used c.args.table.now c.args.ids.now c.args.marks.now (c.in-Some.id.now ++ chunks_exact_rest c.next.new.self) c.loop-id.marks = rw next.1.0 at c.loop-id.invariant.1 in
    let long : length c.in-Some.id.now ≡ 32 = next.1.1 ∙ c.loop-id.invariant.0 in
    let same : c.id_at.result.now ≡ c.in-Some.id.now = c.id_at.ensures ∙ take_all 32 c.in-Some.id.now (omega arith) in
    (next.0 ∙ c.loop-id.invariant.0, marking_more _ _ _ _ _ _ _ _ g c.requires.table_value long _ (rw same at c.mark.ensures) c.mark.auto.marks)

pub returns : goal.returns
returns c = marking_all _ _ _ _ _ _ _ c.loop-id.invariant.1 (omega (arith, c.in-None.ensures.steps.1.0, c.loop-id.invariant.0))
