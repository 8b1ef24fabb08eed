-- Writing and reading, too, neither read nor write anything lent beyond the capacities. Assumes nothing.
use Rattle.std.specs.Prelude.{◌≡◌, ℕ, List}
use Rattle.kinds.specs.declared.State.{State}
use Rattle.rules.specs.Board.{Board}
use Rattle.rules.specs.Memory.{Lent}
use Rattle.rules.specs.Beyond.{of_lent, Confined}
use Rattle.format.specs.File.{Version}
use Rattle.format.specs.Calls.{write_call, read_call}

-- both calls, of any version and on any board
pub record FileBeyondPromise (v : Version) (k : Board) : Type 0 where
  -- a write changes nothing but its output
  pub write : (s : State) (l : Lent) (out : List ℕ) → write_call v k s l out ≡ write_call v k s ((of_lent k).inner l) out
  pub read : (file : List ℕ) → Confined (of_lent k) (λ l. read_call v k l file)
