-- `settle::load_table` meets its contract.
-- Assumes nothing.
use mathlib.Core.Path.{sym, ◌∙◌}
use Prim.Native.Nat.{◌*◌, ◌≤◌}
use native.Mathlib.Nat.{mul-le-mul_right}
use native.Mathlib.Omega.{arith}
use lib.ListN.{length}
use lib.Seq.{length-take-le}
use Rattle.rules.specs.Records.{records}
use Rattle.format.proofs.Order.{settled_rising}
use Rattle.table.proofs.Holding.{Holds, holds_records}
use Rattle.settle.proofs.Whole.{all_count, all_bytes, copied, shuffled, over}
use Rattle.settle.proofs.load_table.Goals as goal
use Rattle.settle.proofs.load_table.Goals.{After-put_bytes, Start}

-- the file's records end within the places, and these within the bytes
short : (s : Start) → (s.args.n * s.args.size ≤ s.args.room * s.args.size) × (s.args.room * s.args.size ≤ length s.args.table.now)
short s = (mul-le-mul_right s.args.size s.requires.1.0, s.requires.1.1.1)

-- the file's records, copied
holds : (p : After-put_bytes) → Holds p.args.size p.args.n p.args.table.now (records p.args.size p.args.n p.args.src.now) p.put_bytes.new.a
holds p = copied p.args.size p.args.room p.args.n p.requires.1.0 p.args.table.now p.args.src.now p.put_bytes.new.a p.requires.1.1.1 p.requires.1.1.0 p.put_bytes.ensures

pub put_bytes-requires : goal.put_bytes-requires
put_bytes-requires c = omega (arith, short (goal.at.put_bytes-requires c).Start, length-take-le (c.args.n * c.args.size) c.args.src.now c.requires.1.1.0)

pub returns-then-ids_rise : goal.returns-then-ids_rise
returns-then-ids_rise c =
    let up = rw (holds_records c.args.size c.args.n c.args.table.now (holds (goal.at.returns-then-ids_rise c).After-put_bytes)) at (sym c.ids_rise.ensures ∙ c.if-ids_rise.true) in
    let e = settled_rising _ (records c.args.size c.args.n c.args.src.now) up in record { value = all_count c.args.size c.args.room c.args.n c.requires.1.0 c.args.table.now (holds (goal.at.returns-then-ids_rise c).After-put_bytes) e; table_after = c.zero.ensures ∙ all_bytes c.args.size c.args.room c.args.n c.requires.1.0 c.args.table.now (holds (goal.at.returns-then-ids_rise c).After-put_bytes) e }

pub settle-requires : goal.settle-requires
settle-requires c = record { le_size = (c.requires.0.0, (c.requires.1.0, (c.requires.1.1.0, omega (arith, short (goal.at.settle-requires c).Start, c.by_id.auto.table, c.put_bytes.auto.a)))); shuffled = shuffled c.args.size c.args.room c.args.n c.requires.1.0 c.args.table.now (holds (goal.at.settle-requires c).After-put_bytes) c.by_id.ensures; ordered = c.by_id.ensures.ordered }

pub returns : goal.returns
returns c = record { value = c.settle.ensures.value; table_after = c.settle.ensures.table_after ∙ over c.args.size c.args.room c.args.n c.requires.1.0 c.args.table.now (holds (goal.at.returns c).After-put_bytes) c.by_id.ensures _ }
