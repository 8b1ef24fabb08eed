-- `room::finds_room` meets its contract. Assumes nothing.
use native.Mathlib.Omega.{arith}
use Rattle.rules.specs.Memory.{confirmed_capacity}
use Rattle.table.proofs.Sound.{sound_told}
use Rattle.room.proofs.Judging.{enough_places}
use Rattle.room.proofs.finds_room.Goals as goal

pub overflow_sub-room : goal.overflow_sub-room
overflow_sub-room c = omega (arith, c.capacity-room.ensures, (sound_told _ _ _ _ c.requires.recent_value).fit)

pub returns-then-used-room : goal.returns-then-used-room
returns-then-used-room c =
    let fit = (sound_told _ _ _ _ c.requires.recent_value).fit in
    enough_places _ _ _ _ _ c.args.state.recent _ _ (confirmed_capacity c.args.recent.now) fit (omega (arith, c.capacity-room.ensures))
