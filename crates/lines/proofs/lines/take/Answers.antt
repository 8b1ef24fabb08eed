-- `lines::lines::take` meets its contract.
-- Assumes nothing.
use mathlib.Core.Path.{ap, sym, ◌∙◌}
use Prim.Native.Nat.{◌+◌}
use Rattle.lines.specs.Lines.{taken}
use Rattle.lines.proofs.Taking.{by_word}
use Rattle.lines.proofs.lines.take.Goals as goal

pub returns-in_err-value-in_default : goal.returns-in_err-value-in_default
returns-in_err-value-in_default c =
    c.from_residual-in_err-value-in_default.ensures
    ∙ ap (taken (c.word_at-word.result.end + 1)) (sym c.in_err-value-in_default.was)
    ∙ by_word c.args.line.now c.args.at c.args.field c.word_at-word.result c.value_of.result c.in_default.not-Nothing c.in_default.not-Ids c.word_at-word.ensures.value c.value_of.ensures

pub returns-in_ok-value-in_default : goal.returns-in_ok-value-in_default
returns-in_ok-value-in_default c =
    ap (taken (c.word_at-word.result.end + 1)) (sym c.in_ok-value-in_default.was)
    ∙ by_word c.args.line.now c.args.at c.args.field c.word_at-word.result c.value_of.result c.in_default.not-Nothing c.in_default.not-Ids c.word_at-word.ensures.value c.value_of.ensures
