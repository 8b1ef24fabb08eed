use lib.Ieee.{nan}
use Rattle.lists.proofs.Part.{length_part, get_or_part}
use mathlib.Core.Path.{◌≡◌, refl, sym, ◌∙◌}
use Prim.Native.Nat.{◌+◌, ◌*◌, ◌≤◌}
use native.Mathlib.Omega.{arith}
use lib.ListN.{length, get_or}
use Rattle.lists.specs.Part.{part}
use Rattle.lists.proofs.Swept.{swept_more, swept_done}
use Rattle.bucket.proofs.row.row_out.Goals as goal

pub loop-i-init : goal.loop-i-init
loop-i-init c = (refl, refl)

pub loop-i-preserved : goal.loop-i-preserved
loop-i-preserved c =
    let row = part 25 c.args.b c.args.counts.now in
    let p : c.args.b * 25 + 25 ≤ length c.args.counts.now = omega arith in
    let n : length row ≡ 25 = length_part 25 c.args.b c.args.counts.now p in
    let e : get_or c.args.counts.now (c.args.b * 25 + c.loop-i.i) nan ≡ get_or row c.loop-i.i nan = sym (get_or_part 25 c.args.b c.args.counts.now c.loop-i.i nan c.loop-i-test.true) in
    (c.loop-i.invariant.0, rw (c.loop-i.invariant.1, e) (swept_more _ row c.loop-i.i nan (omega arith) (omega arith)))

pub returns : goal.returns
returns c =
    let n : length (part 25 c.args.b c.args.counts.now) ≡ 25 = length_part 25 c.args.b c.args.counts.now (omega arith) in
    let i : c.loop-i.i ≡ 25 = omega arith in
    c.loop-i.invariant.1 ∙ swept_done _ (part 25 c.args.b c.args.counts.now) c.loop-i.i (omega arith) (omega arith)
