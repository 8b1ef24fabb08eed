-- `tables::read_tables` meets its contract: each return is one reason or both numbers, in the order that the bytes come. Assumes nothing.
use mathlib.Core.Path.{◌≡◌, refl, sym, ap, ◌∙◌}
use mathlib.Core.List.{List, map}
use Prim.Native.Nat.{ℕ, ◌+◌}
use native.Mathlib.Omega.{arith}
use lib.ListN.{drop}
use Rattle.rules.specs.Lists.{every}
use Rattle.rules.specs.Records.{records}
use Rattle.rules.specs.Board.{in_range, pending_of, pending_most}
use Rattle.tables.proofs.Reading.{told_read, end_room, records_are, no_first, out_of_range, no_second, extra, both_said}
use Rattle.tables.proofs.read_tables.Goals as goal
use Rattle.tables.proofs.read_tables.Goals.{After-in_range}

-- whether the records of the first table are in range
ranged : (r : After-in_range) → r.in_range.result ≡ every in_range (map pending_of (records r.record_size-size.result r.in_ok-n.n (drop (r.args.at + 4) r.args.s.now)))
ranged r =
    r.in_range.ensures
    ∙ ap (λ (xs : List (List ℕ)). every in_range (map pending_of xs)) (records_are r.record_size-size.result pending_most r.args.s.now r.args.at (sym r.in_ok-n.ensures.some) _ r.in_ok-n.ensures.count r.part.result.now r.part.ensures)

pub returns-in_err-n : goal.returns-in_err-n
returns-in_err-n c =
    rw c.from_residual.ensures
    (sym (no_first _ c.record_size-size.result pending_of c.record_size-size.ensures.value (told_read c.args.version) c.args.s.now c.args.at (omega arith) (sym c.in_err-n.ensures.some)))

pub returns-then-not-in_range : goal.returns-then-not-in_range
returns-then-not-in_range c =
    sym (out_of_range _ c.record_size-size.result pending_of c.record_size-size.ensures.value (told_read c.args.version) c.args.s.now c.args.at (sym c.in_ok-n.ensures.some) _ c.in_ok-n.ensures.count
    (sym (ranged (goal.at.returns-then-not-in_range c).After-in_range) ∙ c.if-not-in_range.true))

pub returns-in_err-m : goal.returns-in_err-m
returns-in_err-m c =
    let e = end_room c.record_size-size.result pending_most c.args.s.now c.args.at (sym c.in_ok-n.ensures.some) _ c.in_ok-n.ensures.count in
    rw c.from_residual-in_err-m.ensures
    (sym (no_second _ c.record_size-size.result pending_of c.record_size-size.ensures.value (told_read c.args.version) c.args.s.now c.args.at (sym c.in_ok-n.ensures.some) _ c.in_ok-n.ensures.count
    (sym (ranged (goal.at.returns-in_err-m c).After-in_range) ∙ c.if-not-in_range.false) _ refl e (sym c.in_err-m.ensures.some)))

pub returns-then-next-m : goal.returns-then-next-m
returns-then-next-m c =
    sym (extra _ c.record_size-size.result pending_of c.record_size-size.ensures.value (told_read c.args.version) c.args.s.now c.args.at (sym c.in_ok-n.ensures.some) _ c.in_ok-n.ensures.count
    (sym (ranged (goal.at.returns-then-next-m c).After-in_range) ∙ c.if-not-in_range.false) _ refl (sym c.in_ok-m.ensures.some) _ c.in_ok-m.ensures.count (omega arith))

pub returns : goal.returns
returns c =
    sym (both_said _ c.record_size-size.result pending_of c.record_size-size.ensures.value (told_read c.args.version) c.args.s.now c.args.at (sym c.in_ok-n.ensures.some) _ c.in_ok-n.ensures.count
    (sym (ranged (goal.at.returns c).After-in_range) ∙ c.if-not-in_range.false) _ refl (sym c.in_ok-m.ensures.some) _ c.in_ok-m.ensures.count (omega arith))
