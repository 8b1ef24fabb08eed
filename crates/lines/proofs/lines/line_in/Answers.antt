-- `lines::lines::line_in` meets its contract.
-- Assumes nothing.
use mathlib.Core.Path.{◌≡◌, ap, sym, ◌∙◌}
use Prim.Native.Nat.{◌+◌}
use borrow.Author.Tests.{eqb-true, eqb-false, eq-eqb}
use Rattle.std.specs.Option.{option_and_then}
use Rattle.lines.specs.Lines.{with_fields, line_of}
use Rattle.lines.proofs.Taking.{nothing, something, asks_of}
use Rattle.lines.proofs.lines.line_in.Goals as goal
use Rattle.lines.proofs.lines.line_in.Goals.{then-is_empty-via-then-is_empty, then-is_empty-via-else-is_empty+then-line-eq35, After-allowed}

-- what the operation of the first word comes to
whole : (c : After-allowed) → option_and_then (λ o. with_fields c.args.on c.args.line.now o (c.word_at-word.result.end + 1)) c.allowed.result ≡ line_of c.args.on c.args.begun c.args.line.now
whole c =
    asks_of c.args.on c.args.begun c.args.line.now c.word_at-word.result c.allowed.result (eqb-false _ _ (sym c.is_empty.ensures ∙ c.if-is_empty.false)) c.if-line-eq35.false c.word_at-word.ensures.value c.allowed.ensures

pub returns-then-is_empty : goal.returns-then-is_empty
unfolding line_of
returns-then-is_empty c =
    elim c.then-is_empty.branch [
      | then-is_empty-via-then-is_empty w ↦ rw (nothing c.args.line.now (eqb-true _ _ (sym c.is_empty.ensures ∙ w.if-is_empty.true)))
      | then-is_empty-via-else-is_empty+then-line-eq35 w ↦ rw (something c.args.line.now (eqb-false _ _ (sym c.is_empty.ensures ∙ w.if-is_empty.false)), eq-eqb _ _ w.if-line-eq35.true)
    ]

pub returns-in_err-operation : goal.returns-in_err-operation
returns-in_err-operation c =
    c.from_residual.ensures
    ∙ ap (option_and_then (λ o. with_fields c.args.on c.args.line.now o (c.word_at-word.result.end + 1))) (sym c.in_err-operation.was)
    ∙ whole (goal.at.returns-in_err-operation c).After-allowed

pub returns : goal.returns
returns c =
    c.with_fields.ensures
    ∙ ap (option_and_then (λ o. with_fields c.args.on c.args.line.now o (c.word_at-word.result.end + 1))) (sym c.in_ok-operation.was)
    ∙ whole (goal.at.returns c).After-allowed
