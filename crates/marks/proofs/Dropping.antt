-- The loop that keeps the records whose mark is 0, and drops the others. Assumes nothing.
use mathlib.Core.Path.{◌≡◌, refl, ap, ◌∙◌}
use mathlib.Core.List.{List, []}
use Prim.Native.Nat.{ℕ, ◌+◌, ◌*◌, ◌≤◌, ◌<◌}
use native.Mathlib.Numerals.{add-one}
use native.Mathlib.Omega.{arith}
use lib.Dec.{eqb}
use lib.ListN.{length, take, get_or}
use lib.Seq.{take_all}
use Rattle.rules.specs.Lists.{keep}
use Rattle.rules.specs.Records.{records, laid}
use Rattle.rules.proofs.Records.{length_records}
use Rattle.mem.specs.Moves.{zeroed}
use Rattle.table.specs.Edit.{Moved}
use Rattle.table.proofs.Keeping.{Compacting, compacting_none, compacting_more, compacting_end}
use Rattle.batch.specs.Picked.{picked}
use Rattle.batch.proofs.Picked.{picked_take, picked_back}

module _ (size used : ℕ) (ms xs : List ℕ) where
  abbrev rs : List (List ℕ)
  rs = records size used xs

  -- those of the first i whose mark is 0
  abbrev staying : ℕ → List (List ℕ)
  staying i = picked 0 (take i ms) (take i rs)

  -- record i is next, and k of those before it stay
  abbrev pub Dropping : ℕ → ℕ → List ℕ → Type 0
  Dropping k i a = Compacting size used staying k i a xs

  pub dropping_none : Dropping 0 0 xs
  unfolding picked
  dropping_none = compacting_none size used staying xs refl

  pub dropping_more : (k i r : ℕ) (a b : List ℕ) → i < used → used ≤ length ms → Dropping k i a → Moved (λ _. eqb (get_or ms i 0) 0) size k i a b r → length b ≡ length a → Dropping r (i + 1) b
  unfolding keep
  dropping_more k i r a b h w I m l =
      compacting_more size used staying (λ _. eqb (get_or ms i 0) 0) k i r a b xs h I m l (rw add-one (picked_back 0 i [] ms rs (omega arith) (rw length_records h)))

  -- where the loop has ended and the rest is zeroed
  pub dropping_end : (k : ℕ) (a : List ℕ) → Dropping k used a → (k ≡ length (picked 0 ms rs)) × (zeroed (k * size) (used * size) a ≡ laid size used (picked 0 ms rs) xs)
  dropping_end k a I =
      let many : length rs ≡ used = length_records size used xs in
      compacting_end size used staying k a xs (picked 0 ms rs) (ap (picked 0 (take used ms)) (take_all used rs (omega arith)) ∙ picked_take 0 used ms rs (omega arith)) I
