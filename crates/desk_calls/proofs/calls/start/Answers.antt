-- `calls::calls::start` meets its contract. Assumes nothing.
use mathlib.Core.Path.{refl, ◌∙◌}
use Rattle.kinds.specs.Answers.{Answer, start_refusal}
use Rattle.kinds.specs.Refusals.{start_refuses}
use Rattle.rules.specs.Estimator.{fresh}
use Rattle.rules.specs.Memory.{state_of}
use Rattle.desk_calls.specs.declared.calls.Reply.{Reply}
use Rattle.desk_calls.specs.Calls.{start_does}
use Rattle.desk_calls.proofs.Telling.{both, kept_is, begins}
use Rattle.desk_calls.proofs.calls.start.Goals as goal

pub returns : goal.returns
unfolding start_does
returns c =
    both _ _ _ _ c.numbered.ensures refl
    ∙ begins (λ (a : Answer). Reply.Number a.number) _ _ _ _ _ _ _ c.new-started.ensures (kept_is start_refusal start_refuses c.new-started.result (state_of fresh) c.args.state) refl
