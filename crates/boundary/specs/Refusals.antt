-- A refused call changes nothing that it was lent, but for carried[0] on 9 and 12: on 9 it is the version, on 12 the needed bytes. Assumes nothing.
use Rattle.std.specs.Prelude.{◌≡◌, cond, List, [], ℕ, eqb, length, take, drop, set, Float}
use Rattle.kinds.specs.declared.Horizon.{Horizon}
use Rattle.rules.specs.Bytes.{le}
use Rattle.rules.specs.Board.{board_of}
use Rattle.rules.specs.Memory.{Lent, view}
use Rattle.format.specs.File.{version_of, history_of}
use Rattle.boundary.specs.Words.{state_in}
use Rattle.boundary.specs.Calls.{Seen, seen, izr_new, izr_tx_entered, izr_tx_left, izr_block_connected, izr_estimate, izr_to_history_bytes, izr_from_history_bytes}

-- Where a call is refused, the state's words, the carried words and all else that it was lent are these.
abbrev pub Leaves : {L : Type 0} → List ℕ → List ℕ → L → Seen L → Type 0
Leaves ws cs l s = (s.number ≡ 0 → ⊥) → s ≡ seen s.number ws cs l

-- the carried words, the first of which becomes v where the answer's number is n
unfoldable pub but_on : ℕ → ℕ → ℕ → List ℕ → List ℕ
but_on n v number cs = cond (eqb number n) (set cs 0 v) cs

-- the version that a file names: the number in its bytes 8 to 11
unfoldable pub version_in : List ℕ → ℕ
version_in file = le (take 4 (drop 8 file))

-- how many bytes the history of what the memory holds has
unfoldable pub needed : Horizon → List ℕ → Lent → ℕ
needed on ws l = length (history_of (version_of on) (view (board_of on) (state_in ws) l))

-- For each call that is given a state, or puts one, on either board: refused, it leaves all as it was; a reading writes carried[0] on 9, and a write on 12.
pub record RefusalPromise (on : Horizon) : Type 0 where
  pub new : (ws : List ℕ) (l : Lent) → Leaves ws [] l (izr_new on ws l)
  pub tx_entered : (ws xs id : List ℕ) (rate h : ℕ) → Leaves ws [] xs (izr_tx_entered on ws xs id rate h)
  pub tx_left : (ws xs id : List ℕ) → Leaves ws [] xs (izr_tx_left on ws xs id)
  pub block_connected : (ws : List ℕ) (l : Lent) (ids : List ℕ) (h : ℕ) → Leaves ws [] l (izr_block_connected on ws l ids h)
  pub estimate : (ws : List ℕ) (confirmed resolved : List Float) (target : ℕ) (cs : List ℕ) → Leaves ws cs tt (izr_estimate on ws confirmed resolved target cs)
  pub to_history_bytes : (ws : List ℕ) (l : Lent) (out cs : List ℕ)
      → let s = izr_to_history_bytes on ws l out cs in Leaves ws (but_on 12 (needed on ws l) s.number cs) out s
  pub from_history_bytes : (file : List ℕ) (l : Lent) (ws cs : List ℕ)
      → let s = izr_from_history_bytes on file l ws cs in Leaves ws (but_on 9 (version_in file) s.number cs) l s
