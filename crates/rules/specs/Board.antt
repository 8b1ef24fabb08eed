-- Records and their bytes, and what one board differs from another in. Assumes nothing.
use Rattle.std.specs.Prelude.{ℕ, ◌<◌, ◌^◌, ◌≡◌, Bool, ◌&&◌, List, ◌++◌, T, leb, length, take, drop, Float}
use Rattle.std.proofs.Math.Pow.{are_bytes}
use Rattle.kinds.specs.declared.Horizon.{Horizon}
use Rattle.rules.specs.Ids.{Id}
use Rattle.rules.specs.Ladder.{last_bucket}
use Rattle.rules.specs.Counts.{columns, decimal}
use Rattle.rules.specs.Bytes.{le, bytes}

-- ---- pending records

-- A pending record: id, bucket, entry height, resolved-through.
pub record Pending : Type 0 where
  pub id : Id
  pub bucket : ℕ
  pub entry : ℕ
  pub through : ℕ

-- Bucket at most 141, resolved-through at most 25: else a table is Damaged, and a file Corrupt.
unfoldable pub in_range : Pending → Bool
in_range r = leb r.bucket last_bucket && leb r.through columns

-- how pending records stand in bytes
pub record Layout : Type 0 where
  pub size : ℕ
  pub write : Pending → List ℕ
  pub read : List ℕ → Pending

-- a pending record takes 44 bytes
abbrev pub pending_size : ℕ
pending_size = 44

-- id, bucket, entry height, resolved-through
unfoldable pub pending_bytes : Pending → List ℕ
pending_bytes r = r.id ++ bytes 4 r.bucket ++ bytes 4 r.entry ++ bytes 4 r.through

-- the record of these bytes
unfoldable pub pending_of : List ℕ → Pending
pending_of b = record { id = take 32 b; bucket = le (take 4 (drop 32 b)); entry = le (take 4 (drop 36 b)); through = le (take 4 (drop 40 b)) }

-- the layout of 44 bytes
abbrev pub plain : Layout
plain = record { size = pending_size; write = pending_bytes; read = pending_of }

-- ---- confirmed records

-- A confirmed record: id, height.
pub record Confirmed : Type 0 where
  pub id : Id
  pub height : ℕ

-- a confirmed record takes 36 bytes
abbrev pub confirmed_size : ℕ
confirmed_size = 36

-- id, height
unfoldable pub confirmed_bytes : Confirmed → List ℕ
confirmed_bytes c = c.id ++ bytes 4 c.height

-- the record of these bytes
unfoldable pub confirmed_of : List ℕ → Confirmed
confirmed_of b = record { id = take 32 b; height = le (take 4 (drop 32 b)) }

-- ---- how many of each

-- never above 10,000 pending records
abbrev pub pending_most : ℕ
pending_most = 10000

-- never above 1,000,000 confirmed records
abbrev pub confirmed_most : ℕ
confirmed_most = 1000000

-- ---- boards

-- What one board differs from another in.
pub record Board : Type 0 where
  pub width : ℕ  -- column c is for waits up to width * c blocks
  pub decay : Float  -- the factor of one height
  pub table : Layout  -- of the records in its pending table

-- Column c is target c; every count is multiplied by 0.998; pending records of 44 bytes.
abbrev pub base : Board
base = record { width = 1; decay = decimal 998 1000; table = plain }

-- Column c is for waits up to 6 times c; every count is multiplied by 0.9995; pending records of 44 bytes.
abbrev pub wide : Board
wide = record { width = 6; decay = decimal 9995 10000; table = plain }

-- the board that a horizon names
abbrev pub board_of : Horizon → Board
board_of Horizon.Base = base
board_of Horizon.Wide = wide

-- ---- what the promises ask of a board

-- how a kind of record goes into `size` bytes and back, where it fits
pub record Kept (A : Type 0) (size : ℕ) (write : A → List ℕ) (read : List ℕ → A) (Fits : A → Type 0) : Type 0 where
  pub sized : (a : A) → Fits a → length (write a) ≡ size
  pub back : (a : A) → Fits a → read (write a) ≡ a
  pub forth : (b : List ℕ) → length b ≡ size → T (are_bytes b) → write (read b) ≡ b

-- an id of 32 bytes, and numbers that fit their four bytes
pub record PendingFits (r : Pending) : Type 0 where
  pub id : length r.id ≡ 32
  pub bucket : r.bucket < 256 ^ 4
  pub entry : r.entry < 256 ^ 4
  pub through : r.through < 256 ^ 4

-- A column is at least one block wide; the layout keeps every record that fits, and what it reads fits and has its id first.
pub record Lawful (k : Board) : Type 0 where
  pub wide : 0 < k.width
  pub kept : Kept Pending k.table.size k.table.write k.table.read PendingFits
  pub fits : (b : List ℕ) → length b ≡ k.table.size → T (are_bytes b) → PendingFits (k.table.read b)
  pub named : (b : List ℕ) → (k.table.read b).id ≡ take 32 b
