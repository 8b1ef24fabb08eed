-- A row that is not stored because it is empty is as if it had been, since the decay leaves its bits as they are. Assumes nothing.
use mathlib.Core.Path.{◌≡◌, sym, ap, subst, ◌∙◌}
use mathlib.Core.Bool.{Bool, true, false, cond}
use mathlib.Core.List.{map}
use Prim.Native.Nat.{ℕ, ◌+◌, ◌*◌, ◌≤◌, ◌<◌}
use lib.Dec.{T}
use lib.ListN.{length, get_or}
use lib.Ieee.{Float, nan, binary64, fits}
use Rattle.rules.specs.Counts.{Counts, empty_row}
use Rattle.floats.specs.Factor.{Factor}
use Rattle.floats.proofs.Zeros.{row_stays}
use Rattle.lists.specs.Part.{part, part_put}
use Rattle.lists.proofs.Part.{length_part, get_or_part, put_same}
use Rattle.decay.specs.Decay.{often, row_decayed}
use Rattle.decay.proofs.Often.{stays}

module _ (b : ℕ) (xs : Counts) (h : b * 25 + 25 ≤ length xs) where
  -- the row of bucket b
  abbrev row : Counts
  row = part 25 b xs

  -- its counts are binary64 numbers, as each place of a lent slice is
  module _ {d : Float} (n : ℕ) (q : Factor d) (f : (i : ℕ) → T (fits binary64 (get_or xs i nan))) where
    -- an empty row stands as it would be stored
    pub skipped : empty_row row ≡ true → xs ≡ row_decayed b d n xs
    skipped e =
        let fit : (i : ℕ) → i < length row → T (fits binary64 (get_or row i nan)) =
        λ i k. subst (λ (x : Float). T (fits binary64 x)) (sym (get_or_part 25 b xs i nan (rw (length_part 25 b xs h) at k))) (f (b * 25 + i)) in
        sym (rw (stays n d row (row_stays q row fit e)) (put_same 25 b xs h))

    -- a row that is stored unless it is empty
    pub stored : (empty : Bool) (new last : Counts) → empty ≡ empty_row row → new ≡ map (often n d) row → last ≡ cond empty xs (part_put 25 b new xs) → last ≡ row_decayed b d n xs
    stored true new last e m l = l ∙ skipped (sym e)
    stored false new last e m l = l ∙ ap (λ (r : Counts). part_put 25 b r xs) m
