-- The loop that changes one record after the other. Assumes nothing.
use mathlib.Core.Path.{◌≡◌, ap, ◌∙◌}
use mathlib.Core.Bool.{Bool}
use mathlib.Core.List.{List, [], map}
use Prim.Native.Nat.{ℕ, ◌+◌, ◌*◌, ◌≤◌, ◌<◌, zero-le}
use native.Mathlib.Nat.{le_refl}
use native.Mathlib.Omega.{arith}
use lib.ListN.{length, get_or, set, length-set, length-map}
use Rattle.lists.specs.Upto.{upto}
use Rattle.lists.proofs.Upto as up
use Rattle.rules.specs.Lists.{keep}
use Rattle.rules.specs.Records.{records, laid}
use Rattle.rules.proofs.Records.{length_records, sized_records, laid_twice}
use Rattle.table.proofs.Records.{sized_map, sized_set, sized_at}
use Rattle.table.proofs.Holding.{Holds, holds_own, holds_length, holds_records, holds_then}

-- the first i of the used records are changed by f
pub record Changing (f : List ℕ → List ℕ) (size used : ℕ) (xs : List ℕ) (i : ℕ) (a : List ℕ) : Type 0 where
  pub within : i ≤ used
  pub holds : Holds size used xs (upto f i (records size used xs)) a

module _ (f : List ℕ → List ℕ) (size used : ℕ) (xs : List ℕ) where
  pub changing_none : used * size ≤ length xs → Changing f size used xs 0 xs
  unfolding upto
  changing_none h = record { within = zero-le; holds = holds_own size used xs h }

  pub length_changing : (i : ℕ) (a : List ℕ) → Changing f size used xs i a → length a ≡ length xs
  length_changing i a c = holds_length size used xs c.holds

  -- record i is as it was
  pub changing_still : (i : ℕ) (a : List ℕ) → i < used → Changing f size used xs i a → get_or (records size used a) i [] ≡ get_or (records size used xs) i []
  changing_still i a h c = ap (λ (rs : List (List ℕ)). get_or rs i []) (holds_records size used xs c.holds) ∙ up.still f [] (records size used xs) i (rw length_records h)

  pub changing_more : ((r : List ℕ) → length r ≡ size → length (f r) ≡ size) → (i : ℕ) (a b : List ℕ) → i < used → Changing f size used xs i a
      → b ≡ laid size used (set (records size used a) i (f (get_or (records size used a) i []))) a → Changing f size used xs (i + 1) b
  changing_more g i a b h c e =
      let rs : List (List ℕ) = records size used xs in
      let us : List (List ℕ) = upto f i rs in
      let ra : records size used a ≡ us = holds_records size used xs c.holds in
      let hi : i < length rs = rw length_records h in
      let st : set us i (f (get_or us i [])) ≡ upto f (i + 1) rs = ap (λ (x : List ℕ). set us i (f x)) (up.still f [] rs i hi) ∙ up.next f [] rs i hi in
      let m : i < length us = omega (arith, c.holds.long) in
      record {
        within = omega arith;
        holds = rw (← st) (holds_then size used xs c.holds (sized_set size i (f (get_or us i [])) us (g _ (sized_at size i us c.holds.sized m)) c.holds.sized)
            (length-set us i (f (get_or us i [])) ∙ c.holds.long) (e ∙ ap (λ (qs : List (List ℕ)). laid size used (set qs i (f (get_or qs i []))) a) ra));
      }

  pub changing_end : (a : List ℕ) → Changing f size used xs used a → a ≡ laid size used (map f (records size used xs)) xs
  changing_end a c = c.holds.is ∙ ap (λ (rs : List (List ℕ)). laid size used rs xs) (up.whole f (records size used xs) used (rw length_records (le_refl used)))

-- records changed one by one, and then some of them kept, are one pass over the records as they were
pub changed_kept : (f : List ℕ → List ℕ) (p : List ℕ → Bool) (size used : ℕ) (xs ys zs : List ℕ) (n : ℕ) → ((r : List ℕ) → length r ≡ size → length (f r) ≡ size) → used * size ≤ length xs
    → ys ≡ laid size used (map f (records size used xs)) xs → n ≡ length (keep p (records size used ys)) → zs ≡ laid size used (keep p (records size used ys)) ys
    → (n ≡ length (keep p (map f (records size used xs)))) × (zs ≡ laid size used (keep p (map f (records size used xs))) xs)
changed_kept f p size used xs ys zs n g room e count q =
    let bs : List (List ℕ) = map f (records size used xs) in
    let s = sized_map f size (records size used xs) g (sized_records size used xs room) in
    let l : length bs ≡ used = length-map (records size used xs) f ∙ length_records size used xs in
    let there : records size used ys ≡ bs = holds_records size used xs (record { is = e; sized = s; long = l; room = room }) in
    (count ∙ rw there, q ∙ rw (there, e) (laid_twice size used bs xs s (omega arith) room (keep p bs)))
