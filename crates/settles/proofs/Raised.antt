-- A confirmed table some of whose records have got a new height: it is sound, holds these records, and what is laid over it does not show them. Assumes nothing.
use mathlib.Core.Path.{◌≡◌, sym, ap, subst, ◌∙◌}
use mathlib.Core.Bool.{Bool, true, false, cond}
use mathlib.Core.List.{List, [], map}
use Prim.Native.Nat.{ℕ, ◌^◌, ◌≤◌, ◌<◌}
use native.Mathlib.Omega.{arith}
use lib.ListN.{length, length-map}
use Rattle.kinds.specs.declared.State.{State}
use Rattle.rules.specs.Records.{records, sound_table}
use Rattle.rules.specs.Board.{Board, Lawful, Pending, Confirmed, confirmed_size, confirmed_most, confirmed_of}
use Rattle.rules.specs.Estimator.{is_pending}
use Rattle.rules.specs.Memory.{Lent, confirmed_records, confirmed_capacity, lay_confirmed, view, lay}
use Rattle.rules.proofs.All.{All, all_map}
use Rattle.rules.proofs.Records.{length_records}
use Rattle.rules.proofs.Memory.{ConfirmedFits, confirmed_kept, there, same_capacity, over}
use Rattle.rules.proofs.Sound.{laid_sound, confirmed_id}
use Rattle.batch.specs.Batch.{raised}
use Rattle.batch.proofs.Batch.{none_raised}
use Rattle.batch.proofs.Merging.{up_raised}
use Rattle.ready.specs.Ready.{Ready}
use Rattle.ready.proofs.Facts.{used_recent}

all_raised : (B : ℕ) (gone : List Pending) {cs : List Confirmed} → B < 256 ^ 4 → All ConfirmedFits cs → All ConfirmedFits (raised B gone cs)
unfolding raised
all_raised B gone b h = all_map _ (λ c f. go c f (is_pending c.id gone)) h
  where
    go : (c : Confirmed) → ConfirmedFits c → (t : Bool) → ConfirmedFits (cond t (record { id = c.id; height = B }) c)
    go c f true = record { id = f.id; height = b }
    go c f false = f

-- no record has
pub raised_none : (k : Board) (B : ℕ) (s : State) (l : Lent) → Ready k s l → l.recent ≡ lay_confirmed (raised B [] (confirmed_records s.recent l.recent)) l.recent
unfolding view lay
raised_none k B s l ready = sym (ap (λ (m : Lent). m.recent) ready.own) ∙ ap (λ (c : List Confirmed). lay_confirmed c l.recent) (sym (none_raised B (confirmed_records s.recent l.recent)))

-- those of `gone` have
module _ (k : Board) (law : Lawful k) (B : ℕ) (small : B < 256 ^ 4) (s : State) (l : Lent) (ready : Ready k s l) (gone : List Pending) where
  abbrev cs : List Confirmed
  cs = raised B gone (confirmed_records s.recent l.recent)

  pub raised_length : length cs ≡ s.recent
  unfolding raised confirmed_records
  raised_length = length-map (confirmed_records s.recent l.recent) _ ∙ length-map (records confirmed_size s.recent l.recent) confirmed_of ∙ length_records confirmed_size s.recent l.recent

  pub raised_fits : All ConfirmedFits cs
  unfolding view
  raised_fits = all_raised B gone small ready.well.recent

  room : length cs ≤ confirmed_capacity l.recent
  room = omega (arith, raised_length, used_recent k law s l ready, ready.room.recent)

  module _ (a : List ℕ) (e : a ≡ lay_confirmed cs l.recent) where
    pub raised_sound : sound_table confirmed_size confirmed_most s.recent a ≡ true
    unfolding lay_confirmed view
    raised_sound =
        ap (sound_table confirmed_size confirmed_most s.recent) e
        ∙ subst (λ (n : ℕ). sound_table confirmed_size confirmed_most n (lay_confirmed cs l.recent) ≡ true) raised_length
        (laid_sound confirmed_kept (λ q. q.id) confirmed_id confirmed_most l.recent raised_fits (up_raised B gone ready.well.recent_up) room)

    pub raised_seen : confirmed_records s.recent a ≡ cs
    unfolding lay_confirmed confirmed_records
    raised_seen =
        ap (λ (b : List ℕ). map confirmed_of (records confirmed_size s.recent b)) e
        ∙ ap (λ (n : ℕ). map confirmed_of (records confirmed_size n (lay_confirmed cs l.recent))) (sym raised_length)
        ∙ there confirmed_kept (confirmed_capacity l.recent) l.recent raised_fits

    pub raised_capacity : confirmed_capacity a ≡ confirmed_capacity l.recent
    unfolding lay_confirmed
    raised_capacity = ap confirmed_capacity e ∙ same_capacity confirmed_kept confirmed_most l.recent raised_fits room

    pub raised_over : (ds : List Confirmed) → lay_confirmed ds a ≡ lay_confirmed ds l.recent
    unfolding lay_confirmed
    raised_over ds = ap (lay_confirmed ds) e ∙ over confirmed_kept confirmed_most l.recent raised_fits room ds
