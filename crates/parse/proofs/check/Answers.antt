-- `parse::check` meets its contract: the header, the buckets by their length and their test, then the tables. Assumes nothing.
use mathlib.Core.Path.{◌≡◌, sym, ◌∙◌}
use native.Mathlib.Omega.{arith}
use Rattle.std.specs.Prelude.{None}
use Rattle.kinds.specs.declared.refusals.ReadError.{ReadError}
use Rattle.format.specs.File.{version_told}
use Rattle.parse.proofs.Whole.{Headed, headed, head_refused, file_short, file_bad}
use Rattle.parse.proofs.Judged.{says_why, no_tables, tables_good, tables_bad}
use Rattle.parse.proofs.check.Goals as goal
use Rattle.parse.proofs.check.Goals.{In_ok-last}

-- the header is read, and where it ends
head : (h : In_ok-last) → Headed (version_told h.args.version) h.args.s.now h.in_ok-last.last
head h = headed _ _ _ (sym h.in_ok-last.ensures)

pub returns-in_err-last : goal.returns-in_err-last
returns-in_err-last c =
    says_why (version_told c.args.version) c.from_residual.result c.args.s.now c.in_err-last.field-0.0 c.from_residual.ensures.1 ∙ sym (head_refused _ _ _ (sym c.in_err-last.ensures))

pub overflow_sub-s : goal.overflow_sub-s
overflow_sub-s c = let h = head (goal.at.overflow_sub-s c).In_ok-last in omega arith

pub returns-then-s-at-lt-BUCKETS_SIZE : goal.returns-then-s-at-lt-BUCKETS_SIZE
returns-then-s-at-lt-BUCKETS_SIZE c =
    sym (file_short _ c.args.s.now _ (head (goal.at.returns-then-s-at-lt-BUCKETS_SIZE c).In_ok-last) c.header_len-at.result c.header_len-at.ensures.value (omega arith))

pub returns-then-not-buckets_ok : goal.returns-then-not-buckets_ok
returns-then-not-buckets_ok c =
    sym (file_bad _ c.args.s.now _ (head (goal.at.returns-then-not-buckets_ok c).In_ok-last) c.header_len-at.result c.header_len-at.ensures.value (omega arith) (sym c.if-not-buckets_ok.ensures))

pub returns-in_err-sizes : goal.returns-in_err-sizes
returns-in_err-sizes c =
    let n : c.read_tables.result ≡ None = c.in_err-sizes.ensures.ok_part in
    let w : c.in_err-sizes.field-0.0 ≡ ReadError.Corrupt = no_tables _ _ (sym c.in_err-sizes.ensures.value) in
    says_why (version_told c.args.version) c.from_residual-in_err-sizes.result c.args.s.now ReadError.Corrupt (rw (← w) c.from_residual-in_err-sizes.ensures.1)
    ∙ tables_bad _ c.args.s.now _ (head (goal.at.returns-in_err-sizes c).In_ok-last) c.header_len-at.result c.header_len-at.ensures.value (omega arith) (sym c.if-not-buckets_ok.ensures) c.read_tables.result c.read_tables.ensures n

pub returns : goal.returns
returns c =
    tables_good _ c.args.s.now _ (head (goal.at.returns c).In_ok-last) c.header_len-at.result c.header_len-at.ensures.value (omega arith) (sym c.if-not-buckets_ok.ensures) c.read_tables.result c.read_tables.ensures
    c.in_ok-sizes.sizes c.in_ok-sizes.ensures.ok_part
