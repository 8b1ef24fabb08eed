-- A call is refused, and gives back what it was given, or is taken, for a reason that the next steps need. Assumes nothing.
use mathlib.Core.Path.{◌≡◌, refl}
use mathlib.Core.Bool.{Bool, true, false, not, cond}
use mathlib.Core.List.{List}
use Prim.Native.Nat.{ℕ, ◌%◌, ◌≤◌, ◌<◌}
use native.Mathlib.Omega.{arith}
use lib.Dec.{ltb, eqb}
use lib.ListN.{length}
use borrow.Author.Tests.{ltb-false, eqb-false, not-false}
use Rattle.kinds.specs.declared.FeeRate.{FeeRate}
use Rattle.kinds.specs.declared.Height.{Height}
use Rattle.kinds.specs.declared.State.{State}
use Rattle.kinds.specs.Answers.{Answer, damaged, below_floor, already_pending, pending_full, absent, bad_list, gap_too_wide, confirmed_full}
use Rattle.rules.specs.Ids.{Id}
use Rattle.rules.specs.Ladder.{floor}
use Rattle.rules.specs.Board.{Board}
use Rattle.rules.specs.Estimator.{is_pending, without, admit, block_connected}
use Rattle.rules.specs.Memory.{Lent, pending_capacity, confirmed_capacity, pending_records, sound_pending, sound, view}
use Rattle.rules.specs.Calls.{Outcome, refused, accepted, accepted_pending, enter_call, leave_call, gap, widest_gap, ids_of, held_once_listed, block_call}
use Rattle.rules.proofs.Memory.{pending_length, pending_within}
use Rattle.rules.proofs.Placing.{Free}

pub data Judged {L : Type 0} (s : State) (l : L) (good : Outcome L) (Why : Type 0) : Outcome L → Type 0 where
  turned : (a : Answer) → eqb a.number 0 ≡ false → Judged s l good Why (refused a s l)
  taken : Why → Judged s l good Why good

module _ {L : Type 0} {s : State} {l : L} {good : Outcome L} {Why : Type 0} where
  unless : (a : Answer) → eqb a.number 0 ≡ false → (b : Bool) {o : Outcome L} → (b ≡ false → Judged s l good Why o) → Judged s l good Why (cond b (refused a s l) o)
  unless a z true f = turned a z
  unless a z false f = f refl

module _ (k : Board) (s : State) where
  pub enter_judged : (xs : List ℕ) (i : Id) (rate : FeeRate) (h : Height)
      → Judged s xs (accepted_pending k s (admit i rate.0 h.0 (pending_records k s.pending xs)) xs) (Free (pending_capacity k xs) i (pending_records k s.pending xs) × (floor ≤ rate.0)) (enter_call k s xs i rate h)
  unfolding enter_call
  enter_judged xs i rate h =
      unless damaged refl (not (sound_pending k s.pending xs))
      (λ p. unless below_floor refl (ltb rate.0 floor)
      (λ b. unless already_pending refl (is_pending i (pending_records k s.pending xs))
      (λ q. unless pending_full refl (eqb s.pending (pending_capacity k xs))
      (λ r. taken (record { absent = q; place = place (not-false (sound_pending k s.pending xs) p) r }, ltb-false rate.0 floor b)))))
    where
      place : sound_pending k s.pending xs ≡ true → eqb s.pending (pending_capacity k xs) ≡ false → length (pending_records k s.pending xs) < pending_capacity k xs
      place p r = omega (arith, pending_length k s.pending xs, pending_within k s.pending xs p, eqb-false s.pending (pending_capacity k xs) r)

  pub leave_judged : (xs : List ℕ) (i : Id)
      → Judged s xs (accepted_pending k s (without i (pending_records k s.pending xs)) xs) (Unit {0}) (leave_call k s xs i)
  unfolding leave_call
  leave_judged xs i =
      unless damaged refl (not (sound_pending k s.pending xs))
      (λ p. unless absent refl (not (is_pending i (pending_records k s.pending xs))) (λ q. taken tt))

  pub block_judged : (l : Lent) (ids : List ℕ) (B : Height)
      → Judged s l (accepted k (block_connected k (ids_of ids) B.0 (view k s l)) l) (held_once_listed k (ids_of ids) B.0 (view k s l) ≤ confirmed_capacity l.recent) (block_call k s l ids B)
  unfolding block_call
  block_judged l ids B =
      unless damaged refl (not (sound k s l))
      (λ p. unless bad_list refl (not (eqb (length ids % 32) 0))
      (λ q. unless gap_too_wide refl (ltb widest_gap (gap s.last B))
      (λ r. unless confirmed_full refl (ltb (confirmed_capacity l.recent) (held_once_listed k (ids_of ids) B.0 (view k s l))) (λ t. taken (ltb-false _ _ t)))))
