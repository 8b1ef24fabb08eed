use mathlib.Core.Path.{◌≡◌, sym, ap, ◌∙◌}
use mathlib.Core.Bool.{Bool, true, false, ◌&&◌}
use mathlib.Core.List.{List, map}
use Prim.Native.Nat.{ℕ, ◌+◌, ◌<◌}
use native.Mathlib.Omega.{arith}
use lib.ListN.{drop}
use Rattle.rules.specs.Ids.{rising}
use Rattle.rules.specs.Lists.{every}
use Rattle.rules.specs.Records.{records, id_of}
use Rattle.rules.specs.Board.{in_range, pending_of}
use Rattle.ids.proofs.Records.{length_ids, record_end}
use Rattle.ids.proofs.Rising.{rising_short}
use Rattle.ids.proofs.Climb.{above, starts, two_ends, quick, goes_on, stops, ends}
use Rattle.lists.proofs.Lists.{and_false}
use Rattle.judge.proofs.Records.{fine, fine_is, fine_next, fine_end}
use Rattle.judge.proofs.tables.records_sound.Goals as goal
use Rattle.judge.proofs.tables.records_sound.Goals.{After-one_in_range, After-one_in_range-in-loop-i, Start, then-next-last+else-not-is_below, else-next-last}

abbrev rs : Start → List (List ℕ)
rs s = records s.args.size s.args.used s.args.table.now

-- what the two tests tell together
low : (s : Start) → rising (map id_of (rs s)) ≡ false → false ≡ rising (map id_of (rs s)) && every in_range (map pending_of (rs s))
low s e = sym (rw e)

out : (s : Start) → fine (rs s) ≡ false → false ≡ rising (map id_of (rs s)) && every in_range (map pending_of (rs s))
out s e = sym (ap (λ (t : Bool). rising (map id_of (rs s)) && t) (fine_is (rs s) ∙ e) ∙ and_false (rising (map id_of (rs s))))

both : (s : Start) → rising (map id_of (rs s)) ≡ true → fine (rs s) ≡ true → true ≡ rising (map id_of (rs s)) && every in_range (map pending_of (rs s))
both s e f = sym (rw (e, fine_is (rs s), f))

-- the first record
first : (c : After-one_in_range) → fine (records c.args.size c.args.used c.args.table.now) ≡ c.one_in_range.result && fine (drop 1 (records c.args.size c.args.used c.args.table.now))
first c = fine_next c.args.size c.args.used c.args.table.now 0 c.one_in_range.result (omega arith) c.one_in_range.ensures

-- within a turn that goes on, the fields tell of the rest
told : (c : After-one_in_range-in-loop-i) → fine (records c.args.size c.args.used c.args.table.now) ≡ c.one_in_range-in-loop-i.result && fine (drop (c.loop-i.i + 1) (records c.args.size c.args.used c.args.table.now))
told c =
    c.loop-i.invariant.1
    ∙ fine_next c.args.size c.args.used c.args.table.now c.loop-i.i c.one_in_range-in-loop-i.result c.loop-i-test.true c.one_in_range-in-loop-i.ensures

pub returns-then-used-eq0 : goal.returns-then-used-eq0
returns-then-used-eq0 c =
    let u : c.args.used ≡ 0 = c.if-used-eq0.true in
    both (goal.at.returns-then-used-eq0 c).Start (rising_short (map id_of (rs (goal.at.returns-then-used-eq0 c).Start)) (omega (arith, length_ids c.args.size c.args.used c.args.table.now, u))) (fine_end c.args.size c.args.used c.args.table.now 0 (omega (arith, u)))

pub returns-then-not-one_in_range : goal.returns-then-not-one_in_range
returns-then-not-one_in_range c = out (goal.at.returns-then-not-one_in_range c).Start (first (goal.at.returns-then-not-one_in_range c).After-one_in_range ∙ rw c.if-not-one_in_range.true)

pub u32_be-last-requires : goal.u32_be-last-requires
u32_be-last-requires c =
    let u : 0 < c.args.used = omega arith in
    omega (arith, record_end c.args.size c.args.used 0 u)

pub loop-i-init : goal.loop-i-init
loop-i-init c =
    (starts (omega arith) c.requires.1 (omega arith) c.u32_be-last.ensures, first (goal.at.loop-i-init c).After-one_in_range ∙ rw c.if-not-one_in_range.false)

pub returns-then-not-is_below : goal.returns-then-not-is_below
returns-then-not-is_below c =
    low (goal.at.returns-then-not-is_below c).Start (stops c.loop-i.invariant.0 c.loop-i-test.true (sym c.is_below.ensures ∙ c.if-not-is_below.true))

pub returns-then-not-one_in_range-2 : goal.returns-then-not-one_in_range-2
returns-then-not-one_in_range-2 c = out (goal.at.returns-then-not-one_in_range-2 c).Start (told (goal.at.returns-then-not-one_in_range-2 c).After-one_in_range-in-loop-i ∙ rw c.if-not-one_in_range-2.true)

pub loop-i-preserved : goal.loop-i-preserved
loop-i-preserved c =
    -- the two ids rise: the words said so, or all bytes did
    let rise : above c.args.size c.args.table.now c.loop-i.i ≡ true =
    elim c.if-next-last.branch [
      | then-next-last+else-not-is_below w ↦ sym w.is_below.ensures ∙ w.if-not-is_below.false
      | else-next-last w ↦ quick c.loop-i.invariant.0 (λ j. omega (arith, c.type_inv.table j)) c.u32_be-next.ensures c.loop-i-test.true (omega (arith, w.if-next-last.false))
    ] in
    (goes_on c.loop-i.invariant.0 c.u32_be-next.ensures c.loop-i-test.true rise, told (goal.at.loop-i-preserved c).After-one_in_range-in-loop-i ∙ rw c.if-not-one_in_range-2.false)

pub returns : goal.returns
returns c =
    both (goal.at.returns c).Start (ends c.loop-i.invariant.0 c.loop-i-test.false) (c.loop-i.invariant.1 ∙ fine_end c.args.size c.args.used c.args.table.now c.loop-i.i c.loop-i-test.false)

pub overflow_mul-at : goal.overflow_mul-at
overflow_mul-at c = omega (arith, two_ends c.loop-i.invariant.0 c.loop-i-test.true)

pub u32_be-next-requires : goal.u32_be-next-requires
u32_be-next-requires c = omega (arith, two_ends c.loop-i.invariant.0 c.loop-i-test.true)

pub overflow_sub-at : goal.overflow_sub-at
overflow_sub-at c = omega (arith, two_ends c.loop-i.invariant.0 c.loop-i-test.true)

pub is_below-requires : goal.is_below-requires
is_below-requires c = omega (arith, two_ends c.loop-i.invariant.0 c.loop-i-test.true)
