-- Any number of entries in any order: what the laws of two entries come to for a feed. Assumes nothing.
use Rattle.std.specs.Prelude.{◌≡◌, ℕ, Bool, true, not, ◌&&◌, List, [], ◌∷◌, T, length}
use Rattle.std.proofs.Math.Pow.{are_bytes}
use Rattle.kinds.specs.declared.State.{State}
use Rattle.kinds.specs.Answers.{done}
use Rattle.rules.specs.Lists.{every}
use Rattle.rules.specs.Ids.{same}
use Rattle.rules.specs.Board.{Board}
use Rattle.rules.specs.Calls.{outcome}
use Rattle.orders.specs.Orders.{Call, Entry, entering, in_turn, Holds, has, Free}

-- entries, one after the other; where there are none, memory is as it was
unfoldable pub entering_all : Board → List Entry → Call
entering_all k [] s xs = outcome done s xs
entering_all k (x ∷ es) s xs = in_turn (entering k x) (entering_all k es) s xs

-- no two of them have one id
unfoldable pub distinct : List Entry → Bool
distinct [] = true
distinct (x ∷ es) = every (λ y. not (same x.id y.id)) es && distinct es

-- the same entries in another order: neighbours change places, one pair after the other
pub data Reordered : List Entry → List Entry → Type 0 where
  as_they_are : {es : List Entry} → Reordered es es
  swapped : (x y : Entry) {es : List Entry} → Reordered (x ∷ y ∷ es) (y ∷ x ∷ es)
  after : (x : Entry) {es fs : List Entry} → Reordered es fs → Reordered (x ∷ es) (x ∷ fs)
  and_then : {es fs gs : List Entry} → Reordered es fs → Reordered fs gs → Reordered es gs

-- Entries of different ids, none of them pending, with a free place for each, give the same memory in any order.
unfoldable pub FeedPromise : Board → Type 0
FeedPromise k = (s : State) (xs : List ℕ) → T (are_bytes xs) → (es fs : List Entry) → Reordered es fs
    → distinct es ≡ true → every (λ x. not (has k s xs x.id)) es ≡ true → Free (length es) k s xs
    → Holds (entering_all k es s xs) (entering_all k fs s xs).state (entering_all k fs s xs).lent
