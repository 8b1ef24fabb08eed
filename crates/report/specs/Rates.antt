-- The text of what an estimate answers. Assumes nothing.
use Rattle.std.specs.Prelude.{ℕ, List, [], ◌∷◌, Float}
use Rattle.kinds.specs.declared.Horizon.{Horizon}
use Rattle.kinds.specs.declared.State.{State}
use Rattle.rules.specs.Board.{board_of}
use Rattle.rules.specs.Calls.{estimate_call}
use Rattle.print.specs.Numerals.{decimal}
use Rattle.print.specs.Text.{Text}
use Rattle.report.specs.Words.{dash}

-- the rate that an answer carries, or `-`
unfoldable pub carried_rate : List ℕ → Text
carried_rate [] = dash
carried_rate (r ∷ rs) = decimal r

-- what the board's estimate call answers for target t
unfoldable pub answered : State → List Float → List Float → Horizon → ℕ → Text
answered s confirmed resolved on t = carried_rate (estimate_call (board_of on) s confirmed resolved (record { 0 = t })).carries
