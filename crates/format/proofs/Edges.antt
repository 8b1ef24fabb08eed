-- Both sides of the edges that only the calls have: 1, 11 with repeats counted, 12 at the exact length and one byte short of it, with the number that it carries.
-- Computed, but for the file's bytes: reading 57,961 of them is too dear, so what was written is read by its law. Assumes nothing.
use mathlib.Core.Path.{◌≡◌, refl}
use mathlib.Core.Bool.{Bool, true, false, ◌&&◌, cond}
use mathlib.Core.List.{List, [], ◌∷◌, ◌++◌, map}
use Prim.Native.Nat.{ℕ, ◌*◌, ◌^◌, ◌<◌}
use native.Mathlib.Omega.{arith}
use lib.Dec.{ltb}
use lib.ListN.{length, replicate}
use Rattle.kinds.specs.declared.State.{State}
use Rattle.std.specs.Prelude.{None}
use Rattle.kinds.specs.Answers.{Answer, done, damaged, no_room, short_output}
use Rattle.rules.specs.Counts.{no_counts}
use Rattle.rules.specs.Board.{Pending, Confirmed, base}
use Rattle.rules.specs.Estimator.{Estimator, fresh}
use Rattle.rules.specs.Memory.{Lent, lent, enough, sound, view, state_of}
use Rattle.rules.specs.Calls.{Outcome, outcome, refused}
use Rattle.rules.proofs.All.{none, more}
use Rattle.rules.proofs.Computed.{compute_calls}
use Rattle.rules.proofs.Edge.{id}
use Rattle.rules.proofs.Edges.{zeros, pending, confirmed, state, at, one_missing}
use Rattle.rules.proofs.Memory.{ConfirmedFits}
use Rattle.rules.proofs.Well.{WellPending}
use Rattle.format.specs.Parts.{good}
use Rattle.format.specs.File.{version_1, history_of, history_length, settled, restored}
use Rattle.format.specs.Calls.{Output, output, write_call, has_room, taken_in, read_call}
use Rattle.format.proofs.Back.{version_1_lawful, written_is_read}
use Rattle.format.proofs.Lengths.{length_history}
use Rattle.format.proofs.Fresh.{uncounted, uncounted_writable}

-- ---- records

-- id n, bucket 33, entry height h, resolved-through 0
abbrev entered : ℕ → ℕ → Pending
entered n h = record { id = id n; bucket = 33; entry = h; through = 0 }

-- id n, height h
abbrev listed : ℕ → ℕ → Confirmed
listed n h = record { id = id n; height = h }

entered_well : (n h : ℕ) → h < 256 ^ 4 → WellPending (entered n h)
entered_well n h b = record { id = refl; bucket = omega arith; entry = b; through = omega arith }

listed_fits : (n h : ℕ) → h < 256 ^ 4 → ConfirmedFits (listed n h)
listed_fits n h b = record { id = refl; height = b }

-- ---- reading

-- each table lists two records of one id
abbrev twice : Estimator
twice = uncounted None (entered 1 99 ∷ entered 1 100 ∷ []) (listed 2 5 ∷ listed 2 6 ∷ [])

-- memory with so many places: reading does not judge what stands in them
abbrev places : ℕ → ℕ → Lent
places p c = lent no_counts no_counts (replicate (p * 44) 7) (replicate (c * 36) 7)

-- a reading of that file
abbrev reading : Lent → Outcome Lent
reading l = read_call version_1 base l (history_of version_1 twice)

reads : (l : Lent) → reading l ≡ cond (enough l.confirmed && enough l.resolved) (taken_in base l (good twice)) (refused damaged (state_of fresh) l)
unfolding read_call
reads l = rw (written_is_read version_1 version_1_lawful twice (uncounted_writable None tt (omega arith) (omega arith)
    (more (entered_well 1 99 (omega arith)) (more (entered_well 1 100 (omega arith)) none)) (more (listed_fits 2 5 (omega arith)) (more (listed_fits 2 6 (omega arith)) none))))

-- a count missing: 1; a place missing for a record, though of each id one record stays: 11
pub readings : map (λ (l : Lent). (reading l).answer) (lent one_missing no_counts [] [] ∷ lent no_counts one_missing [] [] ∷ places 1 2 ∷ places 2 1 ∷ places 2 2 ∷ [])
    ≡ damaged ∷ damaged ∷ no_room ∷ no_room ∷ done ∷ []
unfolding compute_calls has_room taken_in settled restored
readings = simp reads

-- of each id the last record, zeros in the places left, and the used numbers
pub brought_in : reading (places 2 2) ≡ outcome done (state None 1 1) (lent no_counts no_counts (pending 1 33 0 ++ zeros 44) (confirmed 2 6 ++ zeros 36))
unfolding compute_calls has_room taken_in settled restored
brought_in = reads (places 2 2)

-- ---- writing

-- memory with a record in each table: 57,961 + 4 + 44 + 36 bytes
abbrev kept : Lent
kept = lent no_counts no_counts (pending 1 33 0) (confirmed 2 6)

-- whatever output of n bytes is lent, a write with so many pending records used gets this answer, and writes so many bytes
abbrev Writes : ℕ → ℕ → Answer → ℕ → Type 0
Writes used n answer len = (out : List ℕ) → length out ≡ n → ((write_call version_1 base (state (at 101) used 1) kept out).answer ≡ answer) × ((write_call version_1 base (state (at 101) used 1) kept out).lent.len ≡ len)

file_length : length (history_of version_1 (view base (state (at 101) 1 1) kept)) ≡ 58045
unfolding compute_calls history_length
file_length = length_history version_1 version_1_lawful (uncounted (at 101) (entered 1 100 ∷ []) (listed 2 6 ∷ [])) (uncounted_writable (at 101) (omega arith) (omega arith) (omega arith)
    (more (entered_well 1 100 (omega arith)) none) (more (listed_fits 2 6 (omega arith)) none))

kept_sound : sound base (state (at 101) 1 1) kept ≡ true
unfolding compute_calls
kept_sound = refl

writes : (n : ℕ) → Writes 1 n (cond (ltb n 58045) (short_output 58045) done) (cond (ltb n 58045) 0 58045)
unfolding write_call
writes n out e = rw (kept_sound, file_length, e) (go (ltb n 58045) _)
  where
    s : State
    s = state (at 101) 1 1

    go : (b : Bool) (bytes : List ℕ) → let o : Outcome Output = cond b (refused (short_output 58045) s (output 0 out)) (outcome done s (output 58045 bytes)) in
        (o.answer ≡ cond b (short_output 58045) done) × (o.lent.len ≡ cond b 0 58045)
    go true bytes = (refl, refl)
    go false bytes = (refl, refl)

-- one byte short: 12 with the needed length; the exact length; a byte more
pub writings : Writes 1 58044 (short_output 58045) 0 × Writes 1 58045 done 58045 × Writes 1 58046 done 58045
writings = (writes 58044, writes 58045, writes 58046)

-- two pending records used where there is one: 1, also where the output is short
pub damaged_written : (n : ℕ) → Writes 2 n damaged 0
unfolding compute_calls write_call
damaged_written n out e = (refl, refl)
