-- Lent memory that is ready for a step of a board: it holds a well-formed estimator, laid, with room for it. Assumes nothing.
use Rattle.std.specs.Prelude.{◌≡◌}
use Rattle.kinds.specs.declared.State.{State}
use Rattle.rules.specs.Board.{Board}
use Rattle.rules.specs.Memory.{Lent, view, lay}
use Rattle.rules.proofs.Memory.{Room}
use Rattle.rules.proofs.Well.{Well}

-- memory that is its own estimator, laid, which is well-formed and has room
pub record Ready (k : Board) (s : State) (l : Lent) : Type 0 where
  pub own : lay k (view k s l) l ≡ l
  pub well : Well (view k s l)
  pub room : Room k (view k s l) l
