-- `judge::tables::room_and_zeros` meets its contract. Assumes nothing.
use mathlib.Core.Path.{sym, ◌∙◌}
use Prim.Native.Nat.{◌*◌, ◌≤◌, ◌<◌}
use native.Mathlib.Omega.{arith}
use borrow.Author.Tests.{lt-leb, le-leb}
use lib.ListN.{length}
use Rattle.rules.specs.Records.{capacity}
use Rattle.table.proofs.Records.{cap_room}
use Rattle.judge.proofs.tables.room_and_zeros.Goals as goal
use Rattle.judge.proofs.tables.room_and_zeros.Goals.{Then-used-cap}

room : (c : Then-used-cap) → (c.args.used * c.args.size ≤ c.capacity-cap.result * c.args.size) × (c.capacity-cap.result * c.args.size ≤ length c.args.table.now)
room c = cap_room c.args.size c.args.most c.args.used c.capacity-cap.result c.args.table.now c.capacity-cap.ensures c.if-used-cap.true

pub returns-else-used-cap : goal.returns-else-used-cap
returns-else-used-cap c =
    let h : capacity c.args.size c.args.most c.args.table.now < c.args.used = rw c.capacity-cap.ensures at c.if-used-cap.false in
    sym (rw (lt-leb _ _ h) (sym (lt-leb _ _ c.if-used-cap.false)))

pub returns-then-used-cap : goal.returns-then-used-cap
returns-then-used-cap c =
    let h : c.args.used ≤ capacity c.args.size c.args.most c.args.table.now = rw c.capacity-cap.ensures at c.if-used-cap.true in
    c.zero_between.ensures ∙ rw (c.capacity-cap.ensures, le-leb _ _ h)

pub overflow_mul-used : goal.overflow_mul-used
overflow_mul-used c = omega (arith, room (goal.at.overflow_mul-used c).Then-used-cap)

pub overflow_mul-cap : goal.overflow_mul-cap
overflow_mul-cap c = omega (arith, room (goal.at.overflow_mul-cap c).Then-used-cap)

pub zero_between-requires : goal.zero_between-requires
zero_between-requires c = omega (arith, room (goal.at.zero_between-requires c).Then-used-cap)
