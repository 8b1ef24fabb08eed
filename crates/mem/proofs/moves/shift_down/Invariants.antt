-- The first `i` bytes have moved.
use mathlib.Core.Path.{◌≡◌}
use Rattle.mem.specs.Moves.{shifted_down}
use Rattle.mem.proofs.moves.shift_down.Given as goal

abbrev pub invariant-loop-i : goal.invariant-loop-i
invariant-loop-i l = l.a ≡ shifted_down l.from l.by l.i l.initial.a
