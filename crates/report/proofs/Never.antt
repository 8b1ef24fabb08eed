-- `show` never says Damaged or NoRoom: its memory is long enough, and 65,536 bytes hold at most 172 pending or 210 confirmed records. Assumes nothing.
use mathlib.Core.Path.{◌≡◌, refl, ap}
use mathlib.Core.Bool.{true, ◌&&◌}
use mathlib.Core.List.{List}
use mathlib.Core.Logic.{◌⊎◌, inl, inr}
use Prim.Native.Nat.{ℕ, ◌≤◌}
use native.Mathlib.Omega.{arith}
use borrow.Author.Tests.{le-leb}
use lib.Dec.{T, leb}
use lib.Ieee.{Float}
use lib.ListN.{length, length-replicate}
use lib.Pow.{are_bytes}
use Rattle.kinds.specs.declared.Horizon.{Horizon}
use Rattle.rules.specs.Counts.{places_of_counts, nought}
use Rattle.rules.specs.Board.{base}
use Rattle.rules.specs.Estimator.{Estimator}
use Rattle.rules.specs.Memory.{enough}
use Rattle.format.specs.Parts.{Parsed, bad, good}
use Rattle.format.specs.File.{version_1, read_history, history_length}
use Rattle.format.specs.Calls.{has_room, taken_in, read_call}
use Rattle.format.proofs.Back.{version_1_lawful}
use Rattle.format.proofs.Lengths.{length_history}
use Rattle.format.proofs.Exact.{read_is_written}
use Rattle.format.proofs.Stops.{refused_by_number}
use Rattle.report.specs.Shown.{room, of_show}
use Rattle.report.proofs.Alike.{room_for_pending, room_for_recent}

many : enough (room of_show).confirmed ≡ true
unfolding room
many = ap (leb places_of_counts) (length-replicate {A = Float} places_of_counts nought)

enough_counts : (enough (room of_show).confirmed && enough (room of_show).resolved) ≡ true
unfolding room
enough_counts = rw (many, many)

module _ (file : List ℕ) (b : T (are_bytes file)) (h : length file ≤ of_show.longest) where
  fits : (e : Estimator) → read_history version_1 file ≡ good e → has_room base (room of_show) e ≡ true
  unfolding has_room history_length
  fits e q =
      let r = read_is_written version_1 version_1_lawful file e b q in
      let n = length_history version_1 version_1_lawful e r.writable in
      let w = ap length r.written in
      let p : length e.pending ≤ 172 = omega arith in
      let c : length e.recent ≤ 210 = omega arith in
      rw (room_for_pending Horizon.Base of_show, room_for_recent of_show, le-leb _ _ p, le-leb _ _ c)

  -- the answer is Done, or one of BadMagic, UnknownVersion and Corrupt
  pub never : ((read_call version_1 base (room of_show) file).answer.number ≡ 0) ⊎ ((8 ≤ (read_call version_1 base (room of_show) file).answer.number) × ((read_call version_1 base (room of_show) file).answer.number ≤ 10))
  unfolding read_call taken_in
  never = go (read_history version_1 file) refl
    where
      go : (r : Parsed Estimator) → read_history version_1 file ≡ r
          → ((read_call version_1 base (room of_show) file).answer.number ≡ 0) ⊎ ((8 ≤ (read_call version_1 base (room of_show) file).answer.number) × ((read_call version_1 base (room of_show) file).answer.number ≤ 10))
      go (good e) q = inl (rw (enough_counts, q, fits e q))
      go (bad why) q = inr (rw (enough_counts, q) (refused_by_number version_1 file why q))
