-- `settle::settle` meets its contract.
-- Assumes nothing.
use mathlib.Core.Path.{sym, ◌∙◌}
use Prim.Native.Nat.{◌*◌, ◌≤◌}
use native.Mathlib.Nat.{mul-le-mul_right}
use native.Mathlib.Omega.{arith}
use lib.ListN.{length}
use Rattle.rules.specs.Records.{records}
use Rattle.table.proofs.Holding.{holds_own}
use Rattle.settle.proofs.Own.{settled_sorted}
use Rattle.settle.proofs.Whole.{all_count, all_bytes, fewer, once_up, once_there, settled_count, settled_bytes}
use Rattle.settle.proofs.settle.Goals as goal
use Rattle.settle.proofs.settle.Goals.{After-drop_repeats-k, Start}

-- the records end within the places, and these within the bytes
short : (s : Start) → (s.args.n * s.args.size ≤ s.args.room * s.args.size) × (s.args.room * s.args.size ≤ length s.args.table.now)
short s = (mul-le-mul_right s.args.size s.requires.le_size.1.0, s.requires.le_size.1.1.1)

-- those kept are not more
less : (c : After-drop_repeats-k) → c.drop_repeats-k.result * c.args.size ≤ c.args.n * c.args.size
less c =
    mul-le-mul_right c.args.size (fewer c.args.size c.args.room c.args.n c.args.table.now c.args.src.now c.requires.le_size.1.0 c.requires.le_size.1.1.1 c.requires.shuffled c.requires.ordered c.drop_repeats-k.new.table c.drop_repeats-k.result c.drop_repeats-k.ensures)

pub returns-then-ids_rise : goal.returns-then-ids_rise
returns-then-ids_rise c =
    let own = holds_own c.args.size c.args.n c.args.table.now (omega (arith, short (goal.at.returns-then-ids_rise c).Start)) in
    let e = settled_sorted (records c.args.size c.args.n c.args.src.now) (records c.args.size c.args.n c.args.table.now) c.requires.shuffled (sym c.ids_rise.ensures ∙ c.if-ids_rise.true) in record { value = all_count c.args.size c.args.room c.args.n c.requires.le_size.1.0 c.args.table.now own e; table_after = c.zero.ensures ∙ all_bytes c.args.size c.args.room c.args.n c.requires.le_size.1.0 c.args.table.now own e }

pub overflow_mul-k : goal.overflow_mul-k
overflow_mul-k c = omega (arith, less (goal.at.overflow_mul-k c).After-drop_repeats-k, short (goal.at.overflow_mul-k c).Start)

pub zero-requires-2 : goal.zero-requires-2
zero-requires-2 c = omega (arith, less (goal.at.zero-requires-2 c).After-drop_repeats-k, c.drop_repeats-k.auto.table, short (goal.at.zero-requires-2 c).Start)

pub renew_all-requires : goal.renew_all-requires
renew_all-requires c = record { le_size = (c.requires.le_size.0, omega (arith, less (goal.at.renew_all-requires c).After-drop_repeats-k, short (goal.at.renew_all-requires c).Start, c.drop_repeats-k.auto.table, c.zero-2.auto.a)); size_in_bounds = c.requires.le_size.1.1.0; table_value = once_up c.args.size c.args.room c.args.n c.args.table.now c.args.src.now c.requires.le_size.1.0 c.requires.le_size.1.1.1 c.requires.shuffled c.requires.ordered c.drop_repeats-k.new.table c.drop_repeats-k.result c.drop_repeats-k.ensures c.zero-2.new.a c.zero-2.ensures; src_value = once_there c.args.size c.args.room c.args.n c.args.table.now c.args.src.now c.requires.le_size.1.0 c.requires.le_size.1.1.1 c.requires.shuffled c.requires.ordered c.drop_repeats-k.new.table c.drop_repeats-k.result c.drop_repeats-k.ensures c.zero-2.new.a c.zero-2.ensures }

pub returns : goal.returns
returns c = record { value = settled_count c.args.size c.args.room c.args.n c.args.table.now c.args.src.now c.requires.le_size.1.0 c.requires.le_size.1.1.1 c.requires.shuffled c.requires.ordered c.drop_repeats-k.new.table c.drop_repeats-k.result c.drop_repeats-k.ensures c.zero-2.new.a c.zero-2.ensures; table_after = settled_bytes c.args.size c.args.room c.args.n c.args.table.now c.args.src.now c.requires.le_size.1.0 c.requires.le_size.1.1.1 c.requires.shuffled c.requires.ordered c.drop_repeats-k.new.table c.drop_repeats-k.result c.drop_repeats-k.ensures c.zero-2.new.a c.zero-2.ensures c.renew_all.new.table c.renew_all.ensures }
