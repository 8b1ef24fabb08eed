-- `calls::calls::enter` meets its contract. Assumes nothing.
use mathlib.Core.Path.{ap₂, ◌∙◌}
use Rattle.kinds.specs.declared.Height.{Height}
use Rattle.rules.specs.Board.{board_of}
use Rattle.rules.specs.Ids.{Id}
use Rattle.rules.specs.Calls.{enter_call}
use Rattle.desk_calls.specs.Calls.{enter_does}
use Rattle.desk_calls.proofs.Telling.{tells}
use Rattle.desk_calls.proofs.calls.enter.Goals as goal

pub returns : goal.returns
unfolding enter_does
returns c =
    let same = ap₂ (λ (x : Id) (y : Height). enter_call (board_of c.args.on) c.args.state c.args.pending.now x (record { 0 = c.args.line.b }) y) c.id_in-id.ensures c.height-height.ensures in
    tells _ _ _ _ _ (c.tx_entered.ensures ∙ same) c.numbered.ensures
