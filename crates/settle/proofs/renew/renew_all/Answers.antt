use mathlib.Core.Path.{ap, ◌∙◌}
use Prim.Native.Nat.{◌+◌, ◌*◌, ◌≤◌, ◌<◌}
use native.Mathlib.Omega.{arith}
use lib.ListN.{length}
use Rattle.ids.proofs.Records.{record_end}
use Rattle.settle.proofs.Renewing.{renewing_none, part_is, part_long, length_renewing, renewing_up, renewing_there, renewing_more, renewing_end}
use Rattle.settle.proofs.renew.renew_all.Goals as goal
use Rattle.settle.proofs.renew.renew_all.Goals.{In-loop-i}

end : (c : In-loop-i) → c.loop-i.i * c.args.size + c.args.size ≤ length c.args.src.now
end c = omega (arith, record_end c.args.size c.args.n c.loop-i.i (omega arith))

pub loop-i-init : goal.loop-i-init
loop-i-init c = renewing_none c.args.size c.args.used c.args.n c.args.table.now c.args.src.now c.requires.le_size.1

pub renew-requires : goal.renew-requires
renew-requires c =
    let h : c.loop-i.i < c.args.n = omega arith in
    let e = part_is c.args.size c.args.used c.args.n c.args.table.now c.args.src.now c.loop-i.i h in
    let n = length_renewing c.args.size c.args.used c.args.n c.args.table.now c.args.src.now c.requires.size_in_bounds c.requires.table_value c.requires.src_value c.loop-i.table c.loop-i.table c.loop-i.i c.loop-i.invariant in record { le_size = (c.requires.le_size.0, omega (arith, c.requires.le_size.1)); rec_len = ap length e ∙ part_long c.args.size c.args.used c.args.n c.args.table.now c.args.src.now c.requires.size_in_bounds c.requires.table_value c.requires.src_value c.loop-i.table c.loop-i.table c.loop-i.i c.loop-i.invariant h; table_value = renewing_up c.args.size c.args.used c.args.n c.args.table.now c.args.src.now c.requires.size_in_bounds c.requires.table_value c.requires.src_value c.loop-i.table c.loop-i.table c.loop-i.i c.loop-i.invariant; table_value_2 = renewing_there c.args.size c.args.used c.args.n c.args.table.now c.args.src.now c.requires.size_in_bounds c.requires.table_value c.requires.src_value c.loop-i.table c.loop-i.table c.loop-i.i c.loop-i.invariant _ h e }

pub loop-i-preserved : goal.loop-i-preserved
loop-i-preserved c =
    let h : c.loop-i.i < c.args.n = omega arith in
    renewing_more c.args.size c.args.used c.args.n c.args.table.now c.args.src.now c.requires.size_in_bounds c.requires.table_value c.requires.src_value c.loop-i.table c.renew.new.table c.loop-i.i c.loop-i.invariant _ h (part_is c.args.size c.args.used c.args.n c.args.table.now c.args.src.now c.loop-i.i h) c.renew.ensures

pub returns : goal.returns
returns c =
    renewing_end c.args.size c.args.used c.args.n c.args.table.now c.args.src.now c.requires.size_in_bounds c.requires.table_value c.requires.src_value c.loop-i.table c.loop-i.table c.loop-i.i c.loop-i.invariant (omega arith)
