-- What a step may use of memory that is ready: lengths, sound tables, records in range. Assumes nothing.
use mathlib.Core.Path.{◌≡◌, refl, sym, ap, ap₂, ◌∙◌}
use mathlib.Core.Bool.{true}
use mathlib.Core.List.{List}
use Prim.Native.Nat.{ℕ, ◌≤◌}
use native.Mathlib.Omega.{arith}
use lib.ListN.{length, take, length-take}
use lib.Ieee.{Float}
use Rattle.kinds.specs.declared.State.{State}
use Rattle.rules.specs.Board.{Board, Lawful, confirmed_size, pending_most, confirmed_most}
use Rattle.rules.specs.Counts.{places_of_counts}
use Rattle.rules.specs.Records.{sound_table}
use Rattle.rules.specs.Memory.{Lent, lay_pending, lay_confirmed, view, state_of, lay}
use Rattle.rules.proofs.Memory.{confirmed_kept, state_of_view}
use Rattle.rules.proofs.Sound.{well_fits, laid_sound, pending_id, confirmed_id}
use Rattle.ready.specs.Ready.{Ready}

long : (n : ℕ) (xs : List Float) → length (take n xs) ≡ n → n ≤ length xs
long n xs e = omega (arith, length-take n xs)

module _ (k : Board) (law : Lawful k) (s : State) (l : Lent) (r : Ready k s l) where
  pub confirmed_places : places_of_counts ≤ length l.confirmed
  unfolding view
  confirmed_places = long places_of_counts l.confirmed r.well.confirmed

  pub resolved_places : places_of_counts ≤ length l.resolved
  unfolding view
  resolved_places = long places_of_counts l.resolved r.well.resolved

  pub used_pending : length (view k s l).pending ≡ s.pending
  unfolding state_of
  used_pending = ap (λ (t : State). t.pending) (state_of_view k s l)

  pub used_recent : length (view k s l).recent ≡ s.recent
  unfolding state_of
  used_recent = ap (λ (t : State). t.recent) (state_of_view k s l)

  -- both tables are sound
  pub pending_sound : sound_table k.table.size pending_most s.pending l.pending ≡ true
  unfolding lay lay_pending
  pending_sound =
      ap₂ (λ (n : ℕ) (xs : List ℕ). sound_table k.table.size pending_most n xs) (sym used_pending) (sym (ap (λ (m : Lent). m.pending) r.own))
      ∙ laid_sound law.kept (λ q. q.id) (pending_id k law) pending_most l.pending (well_fits r.well).pending r.well.pending_up r.room.pending

  pub recent_sound : sound_table confirmed_size confirmed_most s.recent l.recent ≡ true
  unfolding lay lay_confirmed
  recent_sound =
      ap₂ (λ (n : ℕ) (xs : List ℕ). sound_table confirmed_size confirmed_most n xs) (sym used_recent) (sym (ap (λ (m : Lent). m.recent) r.own))
      ∙ laid_sound confirmed_kept (λ q. q.id) confirmed_id confirmed_most l.recent r.well.recent r.well.recent_up r.room.recent

-- the slices are as long as they were
pub record Long (before after : Lent) : Type 0 where
  pub confirmed : length after.confirmed ≡ length before.confirmed
  pub resolved : length after.resolved ≡ length before.resolved
  pub pending : length after.pending ≡ length before.pending
  pub recent : length after.recent ≡ length before.recent

pub long_same : (l : Lent) → Long l l
long_same l = record { confirmed = refl; resolved = refl; pending = refl; recent = refl }

pub long_after : {l m n : Lent} → Long l m → Long m n → Long l n
long_after a b = record { confirmed = b.confirmed ∙ a.confirmed; resolved = b.resolved ∙ a.resolved; pending = b.pending ∙ a.pending; recent = b.recent ∙ a.recent }
