-- `codec::rows::read_row` meets its contract: where each double of the row is a count, the row is read. Assumes nothing.
use mathlib.Core.Path.{sym, ◌∙◌}
use native.Mathlib.Omega.{arith}
use Rattle.codec.proofs.Counts.{row_told}
use borrow.Author.Rules.{rules}
use Rattle.codec.proofs.rows.read_row.Goals as goal

pub row_counts-requires : goal.row_counts-requires
row_counts-requires c = (search rules, sym c.row_ok.ensures ∙ c.if-row_ok.true)

pub returns-then-row_ok : goal.returns-then-row_ok
returns-then-row_ok c =
    sym (row_told c.args.s.now c.args.at (omega arith) ∙ simp (sym c.row_ok.ensures ∙ c.if-row_ok.true, sym c.row_counts.ensures))

pub returns : goal.returns
returns c =
    sym (row_told c.args.s.now c.args.at (omega arith) ∙ simp (sym c.row_ok.ensures ∙ c.if-row_ok.false))
