-- The confirmed record that a pending record gets, in bytes, and how it goes in among the others. Assumes nothing.
use Rattle.std.specs.Prelude.{ℕ, ◌+◌, ◌-◌, ◌*◌, ◌≤◌, ◌≡◌, true, List, map, length, Ok, Err}
use Rattle.std.proofs.lemmas.List.Edits.{sets}
use Rattle.rules.specs.Ids.{rising}
use Rattle.rules.specs.Board.{confirmed_size, confirmed_bytes}
use Rattle.rules.specs.Records.{records, id_of}
use Rattle.mem.specs.Moves.{shifted_up}
use Rattle.ids.specs.Search.{Found}
use Rattle.batch.specs.Picked.{picked}

-- its id and the height
abbrev pub at_height : ℕ → List ℕ → List ℕ
at_height B r = confirmed_bytes (record { id = id_of r; height = B })

-- how many of rising ids do not stand above one, as a search for it tells
abbrev pub rank_of : Found → ℕ
rank_of (Ok n) = n + 1
rank_of (Err n) = n

-- the confirmed records from number i to n have moved up by `left` places, and the bytes r stand below them
unfoldable pub opened : ℕ → ℕ → ℕ → List ℕ → List ℕ → List ℕ
opened i n left r xs = sets (shifted_up (i * confirmed_size) (n * confirmed_size) (left * confirmed_size) xs) ((i + left - 1) * confirmed_size) r

-- what a merge relies on: both tables' ids rise, there is a mark for each place, and room for the new records that the marks pick
pub record Given (size used kept fresh : ℕ) (table marks recent : List ℕ) : Type 0 where
  pub wide : 32 ≤ size
  pub table_room : used * size ≤ length table
  pub marks_room : used ≤ length marks
  pub recent_room : (kept + fresh) * confirmed_size ≤ length recent
  pub table_up : rising (map id_of (records size used table)) ≡ true
  pub recent_up : rising (map id_of (records confirmed_size kept recent)) ≡ true
  pub many : fresh ≡ length (picked 1 marks (records size used table))
