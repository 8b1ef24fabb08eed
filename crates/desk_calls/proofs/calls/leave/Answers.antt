-- `calls::calls::leave` meets its contract. Assumes nothing.
use mathlib.Core.Path.{ap, ◌∙◌}
use Rattle.rules.specs.Board.{board_of}
use Rattle.rules.specs.Ids.{Id}
use Rattle.rules.specs.Calls.{leave_call}
use Rattle.desk_calls.specs.Calls.{leave_does}
use Rattle.desk_calls.proofs.Telling.{tells}
use Rattle.desk_calls.proofs.calls.leave.Goals as goal

pub returns : goal.returns
unfolding leave_does
returns c =
    let same = ap (λ (x : Id). leave_call (board_of c.args.on) c.args.state c.args.pending.now x) c.id_in-id.ensures in
    tells _ _ _ _ _ (c.tx_left.ensures ∙ same) c.numbered.ensures
