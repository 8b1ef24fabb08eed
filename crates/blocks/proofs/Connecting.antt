-- A block that is not refused, step after step: the skipped heights, the listed ids, and the block's own height. Memory is ready for each step, since no
-- step needs more room than ConfirmedFull asks for. Assumes nothing.
use mathlib.Core.Path.{◌≡◌, sym, ap, ◌∙◌}
use mathlib.Core.Bool.{true, false}
use mathlib.Core.List.{List}
use Prim.Native.Nat.{ℕ, ◌^◌, ◌≤◌, ◌<◌}
use native.Mathlib.Nat.{le_trans}
use lib.ListN.{length}
use Rattle.kinds.specs.declared.State.{State}
use Rattle.kinds.specs.Answers.{done}
use Rattle.rules.specs.Ids.{Id}
use Rattle.rules.specs.Board.{Board, Lawful}
use Rattle.rules.specs.Estimator.{Estimator, advances, advance_height, skip_heights, confirm_all, finish_block, block_connected}
use Rattle.rules.specs.Memory.{Lent, confirmed_capacity, view}
use Rattle.rules.specs.Calls.{Outcome, outcome, accepted, ids_of, held_once_listed}
use Rattle.rules.proofs.Memory.{Room}
use Rattle.rules.proofs.Well.{Well, well_skip, well_confirm_all}
use Rattle.rules.proofs.Room.{fewer_all, within_skip}
use Rattle.rules.proofs.Listed.{ids_sized}
use Rattle.ready.specs.Ready.{Ready}
use Rattle.ready.proofs.Ready.{same_recent, ready_after, seen_after, step_after}

-- a block that is not refused, with all that its steps ask of it
pub record Sure (k : Board) : Type 0 where
  pub state : State
  pub lent : Lent
  pub ready : Ready k state lent
  pub ids : List ℕ
  pub height : ℕ
  pub small : height < 256 ^ 4
  pub room : held_once_listed k (ids_of ids) height (view k state lent) ≤ confirmed_capacity lent.recent

module _ (k : Board) (law : Lawful k) (b : Sure k) where
  abbrev s : State
  s = b.state

  abbrev l : Lent
  l = b.lent

  abbrev r : Ready k s l
  r = b.ready

  abbrev is : List Id
  is = ids_of b.ids

  abbrev B : ℕ
  B = b.height

  abbrev e : Estimator
  e = view k s l

  abbrev skipped : Estimator
  skipped = skip_heights k s.last B e

  abbrev listed : Estimator
  listed = confirm_all k B is skipped

  -- ---- after the skipped heights

  skipped_well : Well skipped
  skipped_well = well_skip k s.last B e r.well

  skipped_room : Room k skipped l
  skipped_room = let w = within_skip k s.last B e in record { pending = le_trans w.pending r.room.pending; recent = le_trans w.recent r.room.recent }

  -- ---- after the listed ids

  listed_well : Well listed
  listed_well = well_confirm_all k B skipped (ids_sized b.ids) b.small skipped_well

  listed_room : Room k listed l
  unfolding held_once_listed view
  listed_room = record { pending = le_trans (fewer_all k B is skipped) skipped_room.pending; recent = b.room }

  -- ---- the steps

  module _ (s₁ : State) (l₁ : Lent) (first : outcome done s₁ l₁ ≡ accepted k skipped l) where
    pub ready_to_list : Ready k s₁ l₁
    ready_to_list = ready_after k law l skipped skipped_well skipped_room first

    pub room_to_list : length (confirm_all k B is (view k s₁ l₁)).recent ≤ confirmed_capacity l₁.recent
    room_to_list =
        let seen : view k s₁ l₁ ≡ skipped = seen_after k law l skipped skipped_well first in
        let same : confirmed_capacity l₁.recent ≡ confirmed_capacity l.recent = ap (λ (o : Outcome Lent). confirmed_capacity o.lent.recent) first ∙ same_recent k law skipped l skipped_well skipped_room in
        rw (seen, same) listed_room.recent

    module _ (s₂ : State) (l₂ : Lent) (second : outcome done s₂ l₂ ≡ accepted k (confirm_all k B is (view k s₁ l₁)) l₁) where
      both : outcome done s₂ l₂ ≡ accepted k listed l
      both = step_after k law l skipped (confirm_all k B is) skipped_well skipped_room first second

      pub ready_to_finish : Ready k s₂ l₂
      ready_to_finish = ready_after k law l listed listed_well listed_room both

      -- it advances
      pub block_advanced : advances s.last B ≡ true → (s₃ : State) (l₃ : Lent) → outcome done s₃ l₃ ≡ accepted k (advance_height k B (view k s₂ l₂)) l₂
          → outcome done s₃ l₃ ≡ accepted k (block_connected k is B e) l
      unfolding block_connected finish_block view
      block_advanced h s₃ l₃ third = step_after k law l listed (advance_height k B) listed_well listed_room both third ∙ sym (rw h)

      -- it does not
      pub block_repeated : advances s.last B ≡ false → outcome done s₂ l₂ ≡ accepted k (block_connected k is B e) l
      unfolding block_connected finish_block view
      block_repeated h = both ∙ sym (rw h)
