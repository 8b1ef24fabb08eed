-- What is needed, from what the code has counted; and for whoever judges a block: room is found exactly if the table has room for all that it will hold once the
-- list is in. Assumes nothing.
use mathlib.Core.Path.{◌≡◌, sym, ap, ap₂, ◌∙◌}
use mathlib.Core.Bool.{Bool, true}
use mathlib.Core.List.{List, ◌++◌}
use Prim.Native.Nat.{ℕ, ◌+◌, ◌-◌, ◌≤◌}
use native.Mathlib.Omega.{arith}
use lib.Dec.{leb}
use borrow.Author.Tests.{le-leb}
use Rattle.kinds.specs.declared.Height.{Height}
use Rattle.kinds.specs.Last.{Last}
use Rattle.kinds.specs.declared.State.{State}
use Rattle.rules.specs.Lists.{count}
use Rattle.rules.specs.Ids.{Id}
use Rattle.rules.specs.Records.{records, id_of}
use Rattle.rules.specs.Board.{Board, Lawful, Pending, Confirmed}
use Rattle.rules.specs.Memory.{Lent, pending_records, confirmed_records, confirmed_capacity, view}
use Rattle.rules.specs.Calls.{ids_of, held_once_listed}
use Rattle.rules.proofs.Memory.{pending_length}
use Rattle.rules.proofs.Well.{Well}
use Rattle.batch.specs.Needed.{listed, needed}
use Rattle.batch.proofs.Needed.{needed_is, needed_most}
use Rattle.marks.specs.Marks.{beside}
use Rattle.room.specs.Room.{last_skipped, least_height, comes_new, marked_count}
use Rattle.room.proofs.Lasting.{stays_is, adds_is}
use Rattle.room.proofs.Counting.{many, marked_is}

-- ---- what is needed

module _ (k : Board) (law : Lawful k) (ids : List Id) (B : ℕ) (last : Last) (used : ℕ) (xs : List ℕ) (cs : List Confirmed) where
  pub all_needed : (skipped : Last) (n least old new : ℕ) (ms rest : List ℕ) → skipped ≡ last_skipped last B → n ≡ k.table.size → least ≡ least_height skipped
      → ms ≡ beside id_of (listed ids) (records n used xs) ++ rest → old ≡ count (λ c. leb least c.height) cs → new ≡ marked_count (comes_new k skipped cs) ms (pending_records k used xs)
      → old + new ≡ needed k ids B last (pending_records k used xs) cs
  unfolding needed pending_records
  all_needed skipped n least old new ms rest es en el em eo ew =
      let ps : List Pending = pending_records k used xs in
      ap₂ (λ (a b : ℕ). a + b)
      (eo ∙ ap (λ (x : ℕ). count (λ c. leb x c.height) cs) (el ∙ ap least_height es) ∙ sym (ap (λ (p : Confirmed → Bool). count p cs) (stays_is last B)))
      (ew
      ∙ ap₂ (λ (s : Last) (l : List ℕ). marked_count (comes_new k s cs) l ps) es (em ∙ ap (λ (z : ℕ). beside id_of (listed ids) (records z used xs) ++ rest) en)
      ∙ marked_is k.table.read law.named (listed ids) (comes_new k (last_skipped last B) cs) (records k.table.size used xs) rest
      ∙ sym (ap (λ (p : Pending → Bool). count p ps) (adds_is last B k ids cs)))

module _ (k : Board) (ids : List Id) (B : ℕ) (last : Last) (used kept : ℕ) (xs ys : List ℕ) where
  -- no more than all used records
  pub within_used : needed k ids B last (pending_records k used xs) (confirmed_records kept ys) ≤ kept + used
  within_used = omega (arith, needed_most k ids B last (pending_records k used xs) (confirmed_records kept ys), many kept ys, pending_length k used xs)

  -- where each pending record finds a free place there is room
  pub enough_places : (room : ℕ) → kept ≤ room → used ≤ room - kept → true ≡ leb (needed k ids B last (pending_records k used xs) (confirmed_records kept ys)) room
  enough_places room h l = sym (le-leb (needed k ids B last (pending_records k used xs) (confirmed_records kept ys)) room (omega (arith, within_used)))

-- ---- for whoever judges a block

-- what `finds_room` answers over memory whose estimator is well-formed
pub room_is : (k : Board) (s : State) (l : Lent) (ids : List ℕ) (B : Height) (r : Bool) → Well (view k s l)
    → r ≡ leb (needed k (ids_of ids) B.0 s.last (pending_records k s.pending l.pending) (confirmed_records s.recent l.recent)) (confirmed_capacity l.recent)
    → r ≡ leb (held_once_listed k (ids_of ids) B.0 (view k s l)) (confirmed_capacity l.recent)
unfolding view
room_is k s l ids B r w e = e ∙ ap (λ (n : ℕ). leb n (confirmed_capacity l.recent)) (sym (needed_is k (ids_of ids) B.0 (view k s l) w))
