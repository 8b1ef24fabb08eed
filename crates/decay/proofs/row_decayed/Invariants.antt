use mathlib.Core.Path.{◌≡◌}
use mathlib.Core.List.{map}
use Rattle.decay.specs.Decay.{often}
use Rattle.decay.proofs.row_decayed.Given as goal

abbrev pub invariant-loop : goal.invariant-loop
invariant-loop l = l.y ≡ map (often l.counter l.factor) l.initial.y
