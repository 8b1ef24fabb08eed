-- By the file's length and the number in its bytes 8 to 11.
use Rattle.std.proofs.Common.{◌≡◌, ℕ, ◌≤◌, List, ◌∙◌, sym, ap, cond, arith, nat_eq, length, take, drop}
use borrow.Author.Tests.{eq-eqb, ne_eqb}
use lib.Dec.{T}
use lib.Pow.{are_bytes}
use Rattle.kinds.specs.declared.Horizon.{Horizon}
use Rattle.rules.specs.Bytes.{le}
use Rattle.rules.proofs.Bytes.{are_bytes_lem}
use Rattle.report.specs.Shown.{named_by}
use Rattle.report.proofs.Named.{too_short, by_number}
use Rattle.report.proofs.named_by.Goals as goal

pub returns-then-file-lt12 : goal.returns-then-file-lt12
returns-then-file-lt12 c = sym (too_short c.args.file.now (omega arith))

-- what the number says
named : (file : List ℕ) → T (are_bytes file) → 12 ≤ length file → (n : ℕ) → n ≡ le (take 4 (drop 8 file)) → named_by file ≡ cond (nat_eq n 3) Horizon.Wide Horizon.Base
named file b h n e = by_number file b h ∙ ap (λ (m : ℕ). cond (nat_eq m 3) Horizon.Wide Horizon.Base) (sym e)

pub returns-then-number-eq-WIDE_HISTORY_VERSION : goal.returns-then-number-eq-WIDE_HISTORY_VERSION
returns-then-number-eq-WIDE_HISTORY_VERSION c =
    sym
    (named c.args.file.now (are_bytes_lem c.args.file.now (λ i. (c.type_inv.file i).fits)) (omega arith) _ c.number.ensures
    ∙ rw (eq-eqb _ _ c.if-number-eq-WIDE_HISTORY_VERSION.true))

pub returns : goal.returns
returns c =
    sym
    (named c.args.file.now (are_bytes_lem c.args.file.now (λ i. (c.type_inv.file i).fits)) (omega arith) _ c.number.ensures
    ∙ rw (ne_eqb _ _ c.if-number-eq-WIDE_HISTORY_VERSION.false))
