-- The counts of the first `b` buckets have decayed.
use mathlib.Core.Path.{◌≡◌}
use Prim.Native.Nat.{◌*◌}
use Rattle.lists.specs.Upto.{upto}
use Rattle.decay.specs.Decay.{often}
use Rattle.decay.proofs.apply_decay.Given as goal

abbrev pub invariant-loop-b : goal.invariant-loop-b
invariant-loop-b l = (l.confirmed ≡ upto (often l.heights.0 l.factor) (l.b * 25) l.initial.confirmed) × (l.resolved ≡ upto (often l.heights.0 l.factor) (l.b * 25) l.initial.resolved)
