-- The records that stand at a place of a file's bytes. Assumes nothing.
use Rattle.std.specs.Prelude.{ℕ, ◌+◌, ◌*◌, Bool, ◌&&◌, List, map, leb, length, drop}
use Rattle.rules.specs.Records.{records}
use Rattle.rules.specs.Board.{Pending, Confirmed, confirmed_size, confirmed_of}
use Rattle.mem.specs.Le.{le_at}
use Rattle.format.specs.File.{Version}

-- the n pending records from `at` on
abbrev pub pendings : Version → List ℕ → ℕ → ℕ → List Pending
pendings v s at n = map v.records.read (records v.records.size n (drop at s))

-- the n confirmed records from `at` on
abbrev pub recents : List ℕ → ℕ → ℕ → List Confirmed
recents s at n = map confirmed_of (records confirmed_size n (drop at s))

-- a number of records stands at `at`, at most `most`, and the file has that many records of `size` bytes after it
abbrev pub has_table : ℕ → ℕ → List ℕ → ℕ → Bool
has_table size most s at = leb (le_at 4 s at) most && leb (at + 4 + le_at 4 s at * size) (length s)
