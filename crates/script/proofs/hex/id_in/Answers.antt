-- `script::hex::id_in` meets its contract.
-- Assumes nothing.
use mathlib.Core.Path.{sym, ◌∙◌}
use borrow.Author.Tests.{eqb-true, eqb-false}
use Rattle.script.proofs.Hexes.{no_word, found, refused}
use Rattle.script.proofs.hex.id_in.Goals as goal

pub returns-then-is_empty : goal.returns-then-is_empty
returns-then-is_empty c = no_word c.args.word.now (eqb-true _ _ (sym c.is_empty.ensures ∙ c.if-is_empty.true))

pub returns-in_err-hex_into : goal.returns-in_err-hex_into
returns-in_err-hex_into c =
    c.from_residual.ensures ∙ refused c.args.word.now (eqb-false _ _ (sym c.is_empty.ensures ∙ c.if-is_empty.false)) c.hex_into.new.out c.in_err-hex_into.ensures

pub returns : goal.returns
returns c = found c.args.word.now (eqb-false _ _ (sym c.is_empty.ensures ∙ c.if-is_empty.false)) c.in_ok-hex_into.field-0 c.hex_into.new.out c.in_ok-hex_into.ensures
