-- `header::followed` meets its contract, by the version. Assumes nothing.
use mathlib.Core.Path.{sym, ap, ◌∙◌}
use Prim.Native.Nat.{ℕ}
use native.Mathlib.Omega.{arith}
use lib.Dec.{eqb}
use lib.ListN.{drop}
use Rattle.kinds.specs.declared.FileVersion.{FileVersion}
use Rattle.rules.proofs.Bytes.{are_bytes_lem}
use Rattle.format.specs.Parts.{is_read}
use Rattle.format.specs.File.{version_told, read_after}
use Rattle.header.proofs.Parts.{after_one, after_short, after_three}
use Rattle.header.proofs.followed.Goals as goal

pub returns-then-s-lt16 : goal.returns-then-s-lt16
returns-then-s-lt16 c =
    sym (ap (λ (v : FileVersion). is_read (read_after (version_told v) (drop 12 c.args.s.now))) c.in-Three.is ∙ after_short c.args.s.now (omega arith) (omega arith))

pub returns-in-One : goal.returns-in-One
returns-in-One c =
    sym (ap (λ (v : FileVersion). is_read (read_after (version_told v) (drop 12 c.args.s.now))) c.in-One.is ∙ after_one (drop 12 c.args.s.now))

pub returns-else-s-lt16 : goal.returns-else-s-lt16
returns-else-s-lt16 c =
    let b = are_bytes_lem c.args.s.now (λ i. (c.type_inv.s i).fits) in
    ap (λ (n : ℕ). eqb n 6) c.number.ensures
    ∙ sym (ap (λ (v : FileVersion). is_read (read_after (version_told v) (drop 12 c.args.s.now))) c.in-Three.is ∙ after_three c.args.s.now (omega arith) b)
