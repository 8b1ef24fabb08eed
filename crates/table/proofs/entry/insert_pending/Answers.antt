-- `table::entry::insert_pending` meets its contract: the bytes that are put together are the record as its board writes it. Assumes nothing.
use mathlib.Core.Path.{sym, ap, subst, ◌∙◌}
use mathlib.Core.List.{List}
use Prim.Native.Nat.{ℕ, ◌+◌, ◌*◌, ◌≤◌}
use native.Mathlib.Omega.{arith}
use lib.ListN.{length}
use borrow.Author.Rules.{rules}
use Rattle.rules.specs.Board.{Pending, board_of}
use Rattle.rules.proofs.Boards.{size_is, write_is}
use Rattle.table.proofs.Made.{pending_put}
use Rattle.table.proofs.entry.insert_pending.Goals as goal

pub insert-requires : goal.insert-requires
insert-requires c =
    let z = c.record_size-size.ensures.value ∙ size_is c.args.on in record { at_le_used = (c.requires.at_le_used.0, subst (λ (n : ℕ). c.args.used * n + n ≤ length c.args.table.now) (sym c.record_size-size.ensures.value) c.requires.at_le_used.1); rec_len = omega (arith, z) }

pub returns : goal.returns
returns c =
    let r : Pending = record { id = c.args.id.now; bucket = c.args.bucket; entry = c.args.entry.0; through = 0 } in
    let w = ap (λ (f : Pending → List ℕ). f r) (write_is c.args.on) in
    pending_put (board_of c.args.on).table.size c.record_size-size.result c.args.used c.args.at c.args.id.now c.args.bucket c.args.entry.0 ((board_of c.args.on).table.write r) c.put_bytes.new.a c.put_u32.new.s c.put_u32-2.new.s c.put_u32-3.new.s c.args.table.now c.insert.new.table
    (search rules) c.record_size-size.ensures.value w c.put_bytes.ensures c.put_u32.ensures c.put_u32-2.ensures c.put_u32-3.ensures c.insert.ensures
