-- `header::ends` meets its contract: four bytes, and their number. Assumes nothing.
use mathlib.Core.Path.{sym, ◌∙◌}
use native.Mathlib.Omega.{arith}
use borrow.Author.Tests.{eq-eqb, ne_eqb}
use Rattle.header.proofs.Parts.{with_short, with_count}
use Rattle.header.proofs.ends.Goals as goal

pub returns-then-s-at-lt4 : goal.returns-then-s-at-lt4
returns-then-s-at-lt4 c = sym (with_short c.args.last c.args.s.now c.args.at (omega arith) (omega arith))

pub returns-then-number : goal.returns-then-number
returns-then-number c = sym (with_count c.args.last c.args.s.now c.args.at _ (omega arith) c.number.ensures ∙ rw (eq-eqb _ _ c.if-number.true))

pub returns : goal.returns
returns c = sym (with_count c.args.last c.args.s.now c.args.at _ (omega arith) c.number.ensures ∙ rw (ne_eqb _ _ c.if-number.false))
