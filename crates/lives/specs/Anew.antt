-- Other memory, lent between two calls: a table that has grown or was cut, another buffer, more counts. Assumes nothing.
use Rattle.std.specs.Prelude.{◌≡◌, ℕ, ◌*◌, ◌≤◌, true, List, ◌++◌, take, replicate}
use Rattle.std.proofs.Math.Seq.{slice}
use Rattle.kinds.specs.declared.State.{State}
use Rattle.rules.specs.Records.{capacity, all_zero}
use Rattle.rules.specs.Counts.{places_of_counts}
use Rattle.rules.specs.Board.{Board, confirmed_size, pending_most, confirmed_most}
use Rattle.rules.specs.Memory.{Lent, lent, sound, view}

-- In the place of m, with the state s, l is lent. It is sound, and it holds what m holds: the same counts, the same pending and the same confirmed records.
-- How long it is, where it stands, and what is beyond its capacities is the caller's own affair.
pub record Anew (k : Board) (s : State) (m l : Lent) : Type 0 where
  pub is_sound : sound k s l ≡ true
  pub holds_same : view k s l ≡ view k s m

-- ---- how to come by such memory: copy what is used, and let the other places be zero

-- A table of `used` records of `size` bytes stands in xs too: there is room for them, they stand first, and every other place is zero.
pub record Moved (size most used : ℕ) (table xs : List ℕ) : Type 0 where
  pub room : used ≤ capacity size most xs
  pub first : take (used * size) xs ≡ take (used * size) table
  pub zeros : all_zero (slice (used * size) (capacity size most xs * size) xs) ≡ true

-- the 3,550 counts of each kind, and both tables
pub record Copied (k : Board) (s : State) (m l : Lent) : Type 0 where
  pub confirmed : take places_of_counts l.confirmed ≡ take places_of_counts m.confirmed
  pub resolved : take places_of_counts l.resolved ≡ take places_of_counts m.resolved
  pub pending : Moved k.table.size pending_most s.pending m.pending l.pending
  pub recent : Moved confirmed_size confirmed_most s.recent m.recent l.recent

-- a copy of sound memory is lent anew
unfoldable pub CopyPromise : Board → Type 0
CopyPromise k = (s : State) (m l : Lent) → sound k s m ≡ true → Copied k s m l → Anew k s m l

-- A table that is cut to its used records, with n zero bytes put behind them: so the Rust crate makes room before a call, and takes it back afterwards.
abbrev pub resized : ℕ → ℕ → List ℕ → ℕ → List ℕ
resized size used xs n = take (used * size) xs ++ replicate n 0

-- memory with both tables resized
abbrev pub refitted : Board → State → Lent → ℕ → ℕ → Lent
refitted k s m a b = lent m.confirmed m.resolved (resized k.table.size s.pending m.pending a) (resized confirmed_size s.recent m.recent b)
