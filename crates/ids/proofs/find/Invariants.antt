-- `ids::find` meets its contract. The invariant: every record before `lo` is below the id, and every one from `hi` on is above it. A turn that goes on learns it of
-- the middle: from the first words, or from all 32 bytes.
-- Assumes nothing.
use mathlib.Core.List.{List, [], map}
use Prim.Native.Nat.{ℕ, ◌-◌, ◌≤◌, ◌<◌}
use lib.ListN.{get_or}
use Rattle.rules.specs.Ids.{Id}
use Rattle.rules.specs.Records.{records, id_of}
use Rattle.ids.proofs.Ids.{Below}
use Rattle.ids.proofs.find.Given as goal

pub record Bracket (js : List Id) (used : ℕ) (id : Id) (lo hi : ℕ) : Type 0 where
  pub lo_le : lo ≤ hi
  pub hi_le : hi ≤ used
  pub under : (i : ℕ) → i < lo → Below (get_or js i []) id
  pub over : (i : ℕ) → hi ≤ i → i < used → Below id (get_or js i [])

abbrev pub invariant-loop-lo : goal.invariant-loop-lo
invariant-loop-lo l = Bracket (map id_of (records l.size l.used l.table)) l.used l.id l.lo l.hi

abbrev pub decreases-loop-lo : goal.decreases-loop-lo
decreases-loop-lo l = l.hi - l.lo
