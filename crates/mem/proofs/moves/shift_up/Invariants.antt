-- The bytes from `i` on have moved.
use mathlib.Core.Path.{◌≡◌}
use Prim.Native.Nat.{◌≤◌}
use Rattle.mem.specs.Moves.{shifted_up}
use Rattle.mem.proofs.moves.shift_up.Given as goal

abbrev pub invariant-loop-i : goal.invariant-loop-i
invariant-loop-i l = (l.from ≤ l.i) × (l.a ≡ shifted_up l.i l.to l.by l.initial.a)
