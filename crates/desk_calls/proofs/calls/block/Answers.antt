-- `calls::calls::block` meets its contract. Assumes nothing.
use mathlib.Core.Path.{ap, ◌∙◌}
use Rattle.kinds.specs.declared.Height.{Height}
use Rattle.rules.specs.Board.{board_of}
use Rattle.rules.specs.Memory.{lent}
use Rattle.rules.specs.Calls.{block_call}
use Rattle.desk_calls.specs.Calls.{block_does}
use Rattle.desk_calls.proofs.Telling.{tells}
use Rattle.desk_calls.proofs.calls.block.Goals as goal

pub returns : goal.returns
unfolding block_does
returns c =
    let same = ap (λ (x : Height). block_call (board_of c.args.on) c.args.state (lent c.args.confirmed.now c.args.resolved.now c.args.pending.now c.args.recent.now) c.args.ids.now x) c.height-height.ensures in
    tells _ _ _ _ _ (c.block_connected.ensures ∙ same) c.numbered.ensures
