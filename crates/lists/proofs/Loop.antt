-- A loop that counts, from the front: what has been counted and what is left to count are the whole. Assumes nothing.
use mathlib.Core.Path.{◌≡◌}
use mathlib.Core.Bool.{Bool, true, false}
use mathlib.Core.List.{List}
use Prim.Native.Nat.{ℕ, ◌+◌, ◌≤◌, ◌<◌, zero-le}
use native.Mathlib.Numerals.{add-one}
use native.Mathlib.Omega.{arith}
use lib.ListN.{length, drop, get_or, drop_of_length-le}
use lib.Seq.{drop-cons}
use Rattle.rules.specs.Lists.{bit, count}

-- `left i` is how many there are from place i on
pub record Counting (left : ℕ → ℕ) (used n i : ℕ) : Type 0 where
  pub within : i ≤ used
  pub few : n ≤ i
  pub is : n + left i ≡ left 0

module _ (left : ℕ → ℕ) (used : ℕ) where
  pub start : Counting left used 0 0
  start = record { within = zero-le; few = zero-le; is = omega arith }

  pub step : {n i : ℕ} (m : ℕ) (t : Bool) → Counting left used n i → i < used → m ≡ n + bit t → left i ≡ bit t + left (i + 1) → Counting left used m (i + 1)
  step {n} {i} m t g h e q = record { within = omega arith; few = omega (arith, small t, g.few); is = omega (arith, g.is) }
    where
      small : (t : Bool) → bit t ≤ 1
      small true = omega arith
      small false = omega arith

  pub stop : {n i : ℕ} → Counting left used n i → left i ≡ 0 → n ≡ left 0
  stop g q = omega (arith, g.is)

-- ---- what is left, of those that pass a test

module _ {A : Type 0} (p : A → Bool) (xs : List A) where
  pub count_next : (i : ℕ) (d : A) → i < length xs → count p (drop i xs) ≡ bit (p (get_or xs i d)) + count p (drop (i + 1) xs)
  unfolding count
  count_next i d h = rw (add-one, drop-cons xs i d h)

  pub count_end : (i : ℕ) → length xs ≤ i → count p (drop i xs) ≡ 0
  unfolding count
  count_end i h = rw (drop_of_length-le xs {i = i} h)
