use lib.Ieee.{nan}
use native.Mathlib.Numerals.{add-one}
use mathlib.Core.Path.{◌≡◌, ◌∙◌}
use Prim.Native.Nat.{◌*◌}
use native.Mathlib.Omega.{arith}
use lib.ListN.{length}
use lib.Seq.{paste-zero, paste-suc}
use borrow.Author.Rules.{rules}
use Rattle.bucket.proofs.row.row_in.Goals as goal

pub loop-i-init : goal.loop-i-init
loop-i-init c = paste-zero c.args.counts.now (c.args.b * 25) c.args.row

pub loop-i-preserved : goal.loop-i-preserved
loop-i-preserved c =
    let n : length c.args.row ≡ 25 = search rules in
    rw (c.loop-i.invariant, add-one) (paste-suc c.args.counts.now (c.args.b * 25) c.args.row c.loop-i.i nan (omega arith) (omega arith))

pub returns : goal.returns
returns c =
    let i : c.loop-i.i ≡ 25 = omega arith in
    c.loop-i.invariant ∙ rw i
