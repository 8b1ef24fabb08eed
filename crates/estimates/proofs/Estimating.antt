-- The estimate over plain lists: each answer is the definition's. Assumes nothing.
use mathlib.Core.Path.{◌≡◌, refl, sym, ap, ◌∙◌}
use mathlib.Core.Bool.{true, false}
use Rattle.std.specs.Prelude.{Option, None, Some, Ok, option_map}
use Prim.Native.Nat.{ℕ, ◌≤◌}
use borrow.Author.Tests.{leb-true, eq-eqb, ne_eqb}
use lib.ListN.{length}
use Rattle.kinds.specs.declared.Blocks.{Blocks}
use Rattle.kinds.specs.declared.State.{State}
use Rattle.kinds.specs.declared.FeeRate.{FeeRate}
use Rattle.kinds.specs.Answers.{done, damaged, estimate_answer}
use Rattle.rules.specs.Board.{Board}
use Rattle.rules.specs.Counts.{Counts, places_of_counts}
use Rattle.rules.specs.Estimate.{column_of, rate_in_column, estimate}
use Rattle.rules.specs.Memory.{enough, sound_counts}
use Rattle.rules.specs.Calls.{rate_answer, estimate_call}
use Rattle.rules.proofs.Records.{and_left}

-- none or a rate, as the result and as the document's answer
same_answer : (o : Option FeeRate) → estimate_answer (Ok o) ≡ rate_answer (option_map (λ r. r.0) o)
unfolding rate_answer
same_answer None = refl
same_answer (Some r) = refl

-- sound counts fill their places
pub many : (xs : Counts) → sound_counts xs ≡ true → places_of_counts ≤ length xs
unfolding sound_counts
many xs h = leb-true _ _ (and_left (enough xs) _ h)

module _ (k : Board) (s : State) (confirmed resolved : Counts) (target : Blocks) where
  pub first_damaged : sound_counts confirmed ≡ false → damaged ≡ estimate_call k s confirmed resolved target
  unfolding estimate_call
  first_damaged p = sym (rw p)

  module _ (p : sound_counts confirmed ≡ true) where
    pub second_damaged : sound_counts resolved ≡ false → damaged ≡ estimate_call k s confirmed resolved target
    unfolding estimate_call
    second_damaged q = sym (rw (p, q))

    module _ (q : sound_counts resolved ≡ true) where
      pub no_target : target.0 ≡ 0 → done ≡ estimate_call k s confirmed resolved target
      unfolding estimate_call estimate rate_answer
      no_target e = sym (rw (p, q, eq-eqb target.0 0 e))

      pub in_column : (target.0 ≡ 0 → ⊥) → (c : ℕ) → c ≡ column_of k target.0 → (r : Option FeeRate) → option_map (λ x. x.0) r ≡ rate_in_column c confirmed resolved
          → estimate_answer (Ok r) ≡ estimate_call k s confirmed resolved target
      unfolding estimate_call estimate
      in_column n c e r g =
          same_answer r
          ∙ ap rate_answer g
          ∙ sym (rw (p, q, ne_eqb target.0 0 n, e))
