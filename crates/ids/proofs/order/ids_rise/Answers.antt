use mathlib.Core.Path.{◌≡◌, sym, ◌∙◌}
use mathlib.Core.Bool.{true}
use mathlib.Core.List.{map}
use Prim.Native.Nat.{◌<◌}
use native.Mathlib.Omega.{arith}
use Rattle.rules.specs.Records.{records, id_of}
use Rattle.ids.proofs.Records.{length_ids, record_end}
use Rattle.ids.proofs.Rising.{rising_short}
use Rattle.ids.proofs.Climb.{above, starts, two_ends, quick, goes_on, stops, ends}
use Rattle.ids.proofs.order.ids_rise.Goals as goal
use Rattle.ids.proofs.order.ids_rise.Goals.{else-next-last-via-then-next-last+else-not-is_below, else-next-last-via-else-next-last}

pub returns-then-used-eq0 : goal.returns-then-used-eq0
returns-then-used-eq0 c =
    sym (rising_short (map id_of (records c.args.size c.args.used c.args.table.now)) (omega (arith, length_ids c.args.size c.args.used c.args.table.now, c.if-used-eq0.true)))

pub u32_be-last-requires : goal.u32_be-last-requires
u32_be-last-requires c =
    let u : 0 < c.args.used = omega arith in
    omega (arith, record_end c.args.size c.args.used 0 u)

pub loop-i-init : goal.loop-i-init
loop-i-init c = starts c.requires.0 c.requires.1 (omega arith) c.u32_be-last.ensures

pub returns-then-not-is_below : goal.returns-then-not-is_below
returns-then-not-is_below c =
    sym (stops c.loop-i.invariant (omega arith) (sym c.is_below.ensures ∙ c.if-not-is_below.true))

pub loop-i-preserved : goal.loop-i-preserved
loop-i-preserved c =
    -- the two ids rise: the words said so, or all bytes did
    let rise : above c.args.size c.args.table.now c.loop-i.i ≡ true =
    elim c.else-next-last.branch [
      | else-next-last-via-then-next-last+else-not-is_below w ↦ sym w.is_below.ensures ∙ w.if-not-is_below.false
      | else-next-last-via-else-next-last w ↦ quick c.loop-i.invariant (λ j. omega (arith, c.type_inv.table j)) c.u32_be-next.ensures (omega arith) (omega (arith, w.if-next-last.false))
    ] in
    goes_on c.loop-i.invariant c.u32_be-next.ensures (omega arith) rise

pub overflow_mul-at : goal.overflow_mul-at
overflow_mul-at c = omega (arith, two_ends c.loop-i.invariant (omega arith))

pub u32_be-next-requires : goal.u32_be-next-requires
u32_be-next-requires c = omega (arith, two_ends c.loop-i.invariant (omega arith))

pub overflow_sub-at : goal.overflow_sub-at
overflow_sub-at c = omega (arith, two_ends c.loop-i.invariant (omega arith))

pub is_below-requires : goal.is_below-requires
is_below-requires c = omega (arith, two_ends c.loop-i.invariant (omega arith))

pub returns : goal.returns
returns c = sym (ends c.loop-i.invariant (omega arith))
