-- `boards::factor_of` meets its contract, by the horizon. Assumes nothing.
use mathlib.Core.Path.{◌≡◌, sym, ap, subst, ◌∙◌}
use lib.Ieee.{Float}
use Rattle.floats.specs.Factor.{Factor}
use Rattle.floats.proofs.Bits.{decay_is, slow_decay_is}
use Rattle.floats.proofs.Count.{board_factor}
use Rattle.kinds.specs.declared.Horizon.{Horizon}
use Rattle.rules.specs.Board.{board_of}
use Rattle.boards.proofs.factor_of.Goals as goal

-- the constant of a board, which is the board's own factor
told : (r : Float) (on : Horizon) → r ≡ (board_of on).decay → (r ≡ (board_of on).decay) × Factor r
told r on e = (e, subst Factor (sym e) (board_factor on))

pub returns-in-Base : goal.returns-in-Base
returns-in-Base c = let both = told _ c.args.on (decay_is ∙ sym (ap (λ (l : Horizon). (board_of l).decay) c.in-Base.is)) in record { value = both.0; factor = both.1 }

pub returns-in-Wide : goal.returns-in-Wide
returns-in-Wide c = let both = told _ c.args.on (slow_decay_is ∙ sym (ap (λ (l : Horizon). (board_of l).decay) c.in-Wide.is)) in record { value = both.0; factor = both.1 }
