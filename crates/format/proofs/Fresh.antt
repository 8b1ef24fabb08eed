-- The file of a fresh start: how it begins, how long it is, that it is read, and that one byte more is not. Assumes nothing.
use mathlib.Core.Path.{◌≡◌, refl}
use mathlib.Core.List.{List, [], ◌∷◌, ◌++◌}
use Prim.Native.Nat.{ℕ, ◌≤◌}
use native.Mathlib.Omega.{arith}
use lib.ListN.{length, take, length-replicate}
use Rattle.kinds.specs.Last.{Last}
use Rattle.std.specs.Prelude.{None}
use Rattle.kinds.specs.Answers.{corrupt}
use Rattle.rules.specs.Ladder.{ladder}
use Rattle.rules.specs.Counts.{places_of_counts, nought, no_counts}
use Rattle.rules.specs.Bytes.{bytes}
use Rattle.rules.specs.Records.{joined}
use Rattle.rules.specs.Board.{Pending, Confirmed, pending_most, confirmed_most}
use Rattle.rules.specs.Estimator.{Estimator, fresh}
use Rattle.rules.proofs.All.{All, none}
use Rattle.rules.proofs.Memory.{ConfirmedFits}
use Rattle.rules.proofs.Well.{WellPending}
use Rattle.floats.proofs.Steps.{all_nought}
use Rattle.format.specs.Parts.{bad, good}
use Rattle.format.specs.File.{Version, version_1, version_3, rates, rates_from, bucket_bytes, last_bytes, head_bytes, history_of, read_history, history_length}
use Rattle.format.proofs.Back.{LawfulVersion, version_1_lawful, version_3_lawful, Short, Writable, written_is_read, extra_is_corrupt}
use Rattle.format.proofs.Lengths.{length_history}

-- its start
fresh_start : take 19 (history_of version_1 fresh) ≡ 0x42 ∷ 0x52 ∷ 0x53 ∷ 0x45 ∷ 0x46 ∷ 0x45 ∷ 0x45 ∷ 0x53 ∷ 1 ∷ 0 ∷ 0 ∷ 0 ∷ 0 ∷ 0x8e ∷ 0 ∷ 0 ∷ 0 ∷ 0xe8 ∷ 3 ∷ []
unfolding history_of head_bytes joined last_bytes bytes bucket_bytes rates rates_from ladder fresh
fresh_start = refl

-- that of version 3: the width stands directly after the number
wide_start : take 23 (history_of version_3 fresh)
    ≡ 0x42 ∷ 0x52 ∷ 0x53 ∷ 0x45 ∷ 0x46 ∷ 0x45 ∷ 0x45 ∷ 0x53 ∷ 3 ∷ 0 ∷ 0 ∷ 0 ∷ 6 ∷ 0 ∷ 0 ∷ 0 ∷ 0 ∷ 0x8e ∷ 0 ∷ 0 ∷ 0 ∷ 0xe8 ∷ 3 ∷ []
unfolding history_of head_bytes joined last_bytes bytes bucket_bytes rates rates_from ladder fresh
wide_start = refl

-- every count +0.0, and these records
abbrev pub uncounted : Last → List Pending → List Confirmed → Estimator
uncounted last ps cs = record { last = last; pending = ps; recent = cs; confirmed = no_counts; resolved = no_counts }

-- a file can hold it
pub uncounted_writable : (last : Last) {ps : List Pending} {cs : List Confirmed} → Short last → length ps ≤ pending_most → length cs ≤ confirmed_most
    → All WellPending ps → All ConfirmedFits cs → Writable (uncounted last ps cs)
uncounted_writable last short few-pending few-recent ps cs =
    record {
      last = short;
      confirmed_places = length-replicate places_of_counts nought;
      resolved_places = length-replicate places_of_counts nought;
      confirmed = all_nought places_of_counts;
      resolved = all_nought places_of_counts;
      pending_few = few-pending;
      recent_few = few-recent;
      pending = ps;
      recent = cs;
    }

fresh_writable : Writable fresh
unfolding fresh
fresh_writable = uncounted_writable None tt (omega arith) (omega arith) none none

-- ---- of any lawful version

module _ (v : Version) (law : LawfulVersion v) where
  fresh_back : read_history v (history_of v fresh) ≡ good fresh
  fresh_back = written_is_read v law fresh fresh_writable

  -- one byte extra: 10
  fresh_extra : (b : ℕ) → read_history v (history_of v fresh ++ (b ∷ [])) ≡ bad corrupt
  fresh_extra b = extra_is_corrupt v law fresh fresh_writable b []

  fresh_long : length (history_of v fresh) ≡ history_length v fresh.last 0 0
  unfolding fresh
  fresh_long = length_history v law fresh fresh_writable

-- ---- of version 1 and of version 3

fresh_length : length (history_of version_1 fresh) ≡ 57961
unfolding fresh history_length
fresh_length = fresh_long version_1 version_1_lawful

wide_length : length (history_of version_3 fresh) ≡ 57965
unfolding fresh history_length bytes
wide_length = fresh_long version_3 version_3_lawful
