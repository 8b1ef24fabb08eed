-- The laws of a history at the board that a horizon names, whichever it is, and its own version: reading what a write wrote restores state and memory, and an
-- accepted reading leaves sound memory, from which the file is given back if its ids rise. Assumes nothing.
use mathlib.Core.Path.{◌≡◌}
use mathlib.Core.Bool.{true}
use mathlib.Core.List.{List}
use Prim.Native.Nat.{ℕ, ◌≤◌}
use lib.Dec.{T}
use lib.ListN.{length}
use lib.Pow.{are_bytes}
use Rattle.kinds.specs.declared.Horizon.{Horizon}
use Rattle.kinds.specs.declared.State.{State}
use Rattle.kinds.specs.Answers.{done}
use Rattle.rules.specs.Board.{board_of}
use Rattle.rules.specs.Estimator.{Estimator}
use Rattle.rules.specs.Memory.{Lent, sound}
use Rattle.rules.specs.Calls.{outcome}
use Rattle.rules.proofs.Boards.{board_lawful}
use Rattle.ready.proofs.Stays.{Typed}
use Rattle.format.specs.Parts.{good}
use Rattle.format.specs.File.{own_version, version_of, read_history}
use Rattle.format.specs.Calls.{write_call, read_call}
use Rattle.format.proofs.Back.{LawfulVersion, Short, version_lawful}
use Rattle.format.proofs.RoundTrip.{written, round_trip}
use Rattle.format.proofs.Again.{ids_rise, accepted_is_sound, given_back}

-- a board's own version is lawful
pub own_lawful : (on : Horizon) → LawfulVersion (version_of on)
own_lawful on = version_lawful (own_version on)

pub restores : (on : Horizon) (s : State) (l : Lent) → Short s.last → Typed l → (out : List ℕ) → (write_call (version_of on) (board_of on) s l out).answer.number ≡ 0
    → read_call (version_of on) (board_of on) l (written (write_call (version_of on) (board_of on) s l out).lent) ≡ outcome done s l
restores on = round_trip (version_of on) (own_lawful on) (board_of on) (board_lawful on)

module _ (on : Horizon) (l : Lent) (file : List ℕ) (b : T (are_bytes file)) (d : (read_call (version_of on) (board_of on) l file).answer.number ≡ 0) where
  pub leaves_sound : sound (board_of on) (read_call (version_of on) (board_of on) l file).state (read_call (version_of on) (board_of on) l file).lent ≡ true
  leaves_sound = accepted_is_sound (version_of on) (own_lawful on) (board_of on) (board_lawful on) l file b d

  pub gives_back : (e : Estimator) → read_history (version_of on) file ≡ good e → (out : List ℕ) → length file ≤ length out → ids_rise e ≡ true
      → written
      (write_call (version_of on) (board_of on) (read_call (version_of on) (board_of on) l file).state (read_call (version_of on) (board_of on) l file).lent out).lent
      ≡ file
  gives_back e r out h = (given_back (version_of on) (own_lawful on) (board_of on) (board_lawful on) l file b d e r out h).1
