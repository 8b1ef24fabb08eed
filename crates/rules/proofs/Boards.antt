-- Both boards are lawful: their layout keeps every record that fits, and reads ids of 32 bytes and numbers of four. Then what the code may use of
-- the board that a horizon names, whichever it is. Assumes nothing.
use mathlib.Core.Path.{◌≡◌, refl, sym, ap₂}
use mathlib.Core.List.{List, []}
use Prim.Native.Nat.{ℕ, ◌≤◌}
use native.Mathlib.Omega.{arith}
use lib.Dec.{lit<}
use lib.ListN.{get_or}
use lib.Seq.{length-take-le}
use Rattle.kinds.specs.declared.Horizon.{Horizon}
use Rattle.rules.specs.Board.{Pending, base, wide, board_of, pending_bytes, pending_of, Lawful}
use Rattle.rules.specs.Records.{records}
use Rattle.rules.proofs.Memory.{pending_kept}
use Rattle.rules.proofs.Sound.{number_lt}

pub base_lawful : Lawful base
unfolding pending_of
base_lawful =
    record {
      wide = lit< tt;
      kept = pending_kept;
      fits = λ b n t. record { id = length-take-le 32 b (omega arith); bucket = number_lt b 32 (omega arith) t; entry = number_lt b 36 (omega arith) t; through = number_lt b 40 (omega arith) t };
      named = λ b. refl;
    }

-- the wide board: the base board's layout, and columns that are not empty
pub wide_lawful : Lawful wide
wide_lawful = record { wide = lit< tt; kept = base_lawful.kept; fits = base_lawful.fits; named = base_lawful.named }

-- ---- the board that a horizon names

-- either board is lawful
pub board_lawful : (on : Horizon) → Lawful (board_of on)
board_lawful Horizon.Base = base_lawful
board_lawful Horizon.Wide = wide_lawful

-- a pending record of either board has room for an id and three numbers
pub size_least : (on : Horizon) → 44 ≤ (board_of on).table.size
size_least Horizon.Base = omega arith
size_least Horizon.Wide = omega arith

-- pending records of either board are read as an id and three numbers
pub read_is : (on : Horizon) → (board_of on).table.read ≡ pending_of
read_is Horizon.Base = refl
read_is Horizon.Wide = refl

-- pending records of either board are written as an id and three numbers
pub write_is : (on : Horizon) → (board_of on).table.write ≡ pending_bytes
write_is Horizon.Base = refl
write_is Horizon.Wide = refl

-- record number i, of records of n bytes, is read as the board reads it
pub read_at : (on : Horizon) (n used i : ℕ) (xs : List ℕ) → n ≡ (board_of on).table.size
    → pending_of (get_or (records n used xs) i []) ≡ (board_of on).table.read (get_or (records (board_of on).table.size used xs) i [])
read_at on n used i xs e = ap₂ (λ (f : List ℕ → Pending) (m : ℕ). f (get_or (records m used xs) i [])) (sym (read_is on)) e

-- Today both boards have records of 44 bytes.
pub size_is : (on : Horizon) → (board_of on).table.size ≡ 44
size_is Horizon.Base = refl
size_is Horizon.Wide = refl
