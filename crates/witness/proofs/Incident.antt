-- The incident as a life: a history with a greater last height is read, and from then on the stored counts are not what the log makes, though its
-- blocks rise. The reading is accepted, since what was written is read, and leaves what `Needed` calls restored. Assumes nothing.
use mathlib.Core.Path.{◌≡◌, refl, ap, ◌∙◌, subst}
use mathlib.Core.Bool.{false}
use mathlib.Core.List.{List, [], ◌∷◌, map}
use lib.Dec.{lit<, lit≤}
use lib.ListN.{length-replicate}
use Rattle.std.specs.Prelude.{Some}
use Rattle.rules.specs.Board.{base}
use Rattle.rules.specs.Counts.{nought, places_of_counts, no_counts}
use Rattle.rules.specs.Estimator.{Estimator, fresh}
use Rattle.rules.specs.Memory.{Lent, state_of, lay}
use Rattle.rules.specs.Calls.{Outcome, accepted, start_call}
use Rattle.rules.proofs.All.{none}
use Rattle.floats.proofs.Steps.{all_nought}
use Rattle.format.specs.File.{version_1, history_of, settled, restored as settled-tables}
use Rattle.format.specs.Calls.{has_room, taken_in, read_call}
use Rattle.format.proofs.Back.{Writable, version_1_lawful, written_is_read}
use Rattle.meaning.specs.Runs.{begin, singly, Call, Held, after, after_all, started}
use Rattle.meaning.specs.Fates.{Meant}
use Rattle.witness.proofs.Dirty.{dirty}
use Rattle.witness.proofs.Needed.{restored, next_block, incident, incident_is_not_meant as not-meant}
use Rattle.lives.specs.Lives.{Ask, change, read, Life, begun, next, lives}

-- an estimator that is empty but for its last height
abbrev old : Estimator
old = record { last = Some (record { 0 = 1000000 }); pending = []; recent = []; confirmed = no_counts; resolved = no_counts }

writable : Writable old
writable =
    record {
      last = lit< tt;
      confirmed_places = length-replicate places_of_counts nought;
      resolved_places = length-replicate places_of_counts nought;
      confirmed = all_nought places_of_counts;
      resolved = all_nought places_of_counts;
      pending_few = lit≤ tt;
      recent_few = lit≤ tt;
      pending = none;
      recent = none;
    }

-- its history is read, and what the caller has then is what `Needed` calls restored
old_is_read : read_call version_1 base dirty (history_of version_1 old) ≡ accepted base old dirty
unfolding read_call taken_in has_room settled-tables settled lay
old_is_read = ap (taken_in base dirty) (written_is_read version_1 version_1_lawful old writable)

abbrev having : Held → Life
having x = record { is_fresh = false; held = x }

-- a caller who lends dirty memory and has called nothing yet
abbrev before : Life
before = having (record { state = state_of fresh; memory = dirty; log = begin })

after_reading : next version_1 base (read (history_of version_1 old)) before ≡ having (restored 1000000)
unfolding next begun started start_call fresh lay state_of
after_reading = ap (λ (o : Outcome Lent). begun false o before) old_is_read

-- calls that can change something
changes : (cs : List Call) (x : Held) → lives version_1 base (map change cs) (having x) ≡ having (after_all base cs x)
unfolding lives next after_all
changes [] x = refl
changes (c ∷ cs) x = changes cs (after base c x)

-- the history is read, and the next block comes
pub asked : List Ask
asked = read (history_of version_1 old) ∷ map change next_block

leads_there : lives version_1 base asked before ≡ having incident
unfolding lives asked
leads_there = ap (lives version_1 base (map change next_block)) after_reading ∙ changes next_block (restored 1000000)

pub incident_is_not_meant : (y : Life) → y ≡ lives version_1 base asked before → Meant base (singly y.held.log) y.held → ⊥
incident_is_not_meant y e m = not-meant (subst (λ (z : Life). Meant base (singly z.held.log) z.held) (e ∙ leads_there) m)
