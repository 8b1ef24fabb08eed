-- `calls::calls::read` meets its contract. Assumes nothing.
use mathlib.Core.Path.{ap, ◌∙◌}
use Rattle.kinds.specs.Answers.{read_refusal}
use Rattle.kinds.specs.Refusals.{read_refuses}
use Rattle.rules.specs.Estimator.{fresh}
use Rattle.rules.specs.Memory.{state_of}
use Rattle.desk_calls.specs.declared.calls.Done.{Done}
use Rattle.desk_calls.specs.Calls.{reply_of, read_does}
use Rattle.desk_calls.proofs.Telling.{kept_is, begins}
use Rattle.desk_calls.proofs.calls.read.Goals as goal

pub returns : goal.returns
unfolding read_does
returns c =
    begins reply_of _ _ _ _ _ _ _ c.from_history_bytes-reading.ensures
    (ap (λ (d : Done). d.state) c.numbered-done.ensures ∙ kept_is read_refusal read_refuses c.from_history_bytes-reading.result (state_of fresh) c.args.state) c.reply_of.ensures
