-- `by_id::forget` meets its contract. Assumes nothing.
use Rattle.std.specs.Prelude.{Ok}
use mathlib.Core.Path.{◌≡◌}
use mathlib.Core.List.{map}
use Prim.Native.Nat.{◌*◌, ◌≤◌, ◌<◌}
use lib.ListN.{length}
use native.Mathlib.Omega.{arith}
use borrow.Author.Rules.{rules}
use Rattle.rules.specs.Board.{board_of, pending_most}
use Rattle.rules.specs.Records.{records, id_of}
use Rattle.rules.proofs.Boards.{board_lawful}
use Rattle.ids.specs.Search.{find_in}
use Rattle.table.proofs.Edited.{are_bytes_lem}
use Rattle.by_id.proofs.ById.{searchable, told, in_table, removed, unmoved}
use Rattle.by_id.proofs.forget.Goals as goal
use Rattle.by_id.proofs.forget.Goals.{In-Ok}

at : (n : In-Ok) → find_in n.args.id.now (map id_of (records (board_of n.args.on).table.size n.args.used n.args.pending.now)) ≡ Ok n.in-Ok.i
at n = told _ _ _ _ _ n.record_size-size.ensures.value n.find.ensures n.in-Ok.is

placed : (n : In-Ok) → (n.in-Ok.i < n.args.used) × (n.args.used * n.record_size-size.result ≤ length n.args.pending.now)
placed n = in_table _ _ pending_most _ _ _ _ n.record_size-size.ensures.value n.requires.pending_value (at n)

pub find-requires : goal.find-requires
find-requires c = let both = searchable _ _ pending_most _ _ c.args.id.now c.record_size-size.ensures.value (omega (arith, c.record_size-size.ensures.lower_bound)) c.requires.pending_value (search rules) in record { le_size = both.0; table_value = both.1.0 }

pub remove-requires : goal.remove-requires
remove-requires c = let p = placed (goal.at.remove-requires c).In-Ok in (omega (arith, p.0), p.1)

pub overflow_sub-result : goal.overflow_sub-result
overflow_sub-result c = omega (arith, (placed (goal.at.overflow_sub-result c).In-Ok).0)

pub returns-in-Ok : goal.returns-in-Ok
returns-in-Ok c = let both = removed (board_of c.args.on) (board_lawful c.args.on) _ _ _ _ c.requires.pending_value _ _ c.record_size-size.ensures.value (are_bytes_lem c.remove.new.table (λ i. search rules)) (at (goal.at.returns-in-Ok c).In-Ok) c.remove.ensures in record { value = both.0; pending_after = both.1 }

pub returns-in-Err : goal.returns-in-Err
returns-in-Err c =
    let f = told _ _ _ _ _ c.record_size-size.ensures.value c.find.ensures c.in-Err.is in let both = unmoved (board_of c.args.on) (board_lawful c.args.on) _ _ _ _ c.requires.pending_value (are_bytes_lem c.args.pending.now (λ i. search rules)) f in record { value = both.0; pending_after = both.1 }
