-- Counting leaves what is lent beyond the 3,550 counts as it was. Assumes nothing.
use mathlib.Core.Path.{◌≡◌, refl, sym, ap, ◌∙◌}
use mathlib.Core.Bool.{Bool}
use mathlib.Core.List.{List, ◌++◌}
use Prim.Native.Nat.{ℕ, ◌≤◌}
use native.Mathlib.Omega.{arith}
use lib.ListN.{length, take, drop, length-append, take-append-drop}
use lib.Seq.{take_at, drop_at, length-take-le}
use lib.Ieee.{Float}
use Rattle.rules.specs.Counts.{Counts, places_of_counts, gain}
use Rattle.rules.specs.Board.{Pending}
use Rattle.rules.proofs.All.{All, none, more}
use Rattle.rules.proofs.Well.{WellPending, length_gain}
use Rattle.counts.proofs.Gain.{gain_first}
use Rattle.batch.specs.Batch.{gains}

module _ (test : Pending → ℕ → Bool) where
  gains_front : {rs : List Pending} → All WellPending rs → (xs : Counts) (rest : List Float) → length xs ≡ places_of_counts → gains test rs (xs ++ rest) ≡ gains test rs xs ++ rest
  unfolding gains
  gains_front none xs rest e = refl
  gains_front (more {a = r} {l = rs} h hs) xs rest e =
      ap (gains test rs) one ∙ gains_front hs (gain r.bucket (test r) xs) rest (length_gain r.bucket (test r) xs ∙ e)
    where
      one : gain r.bucket (test r) (xs ++ rest) ≡ gain r.bucket (test r) xs ++ rest
      one =
          gain_first r.bucket (test r) (xs ++ rest) (omega (arith, h.bucket)) (omega (arith, length-append xs rest))
          ∙ rw (take_at xs rest places_of_counts e, drop_at xs rest places_of_counts e)

  pub gains_first : {rs : List Pending} → All WellPending rs → (xs : List Float) → places_of_counts ≤ length xs → gains test rs xs ≡ gains test rs (take places_of_counts xs) ++ drop places_of_counts xs
  gains_first {rs} h xs l =
      ap (gains test rs) (sym (take-append-drop places_of_counts xs)) ∙ gains_front h (take places_of_counts xs) (drop places_of_counts xs) (length-take-le places_of_counts xs l)
