-- The laws for the board that a horizon names, whichever it is, and the worked cases of the base board. Assumes nothing.
use mathlib.Core.Path.{◌≡◌, refl, ap, ◌∙◌}
use mathlib.Core.List.{List, [], ◌∷◌, ◌++◌}
use Prim.Native.Nat.{ℕ, ◌<◌}
use native.Mathlib.Omega.{arith}
use lib.Dec.{T, lit≤, lit<}
use lib.ListN.{length, get_or, length-replicate, get_or-replicate}
use lib.Ieee.{nan, binary64, fits}
use Rattle.kinds.specs.declared.Horizon.{Horizon}
use Rattle.kinds.specs.declared.State.{State}
use Rattle.rules.specs.Lists.{every}
use Rattle.rules.specs.Board.{base, board_of}
use Rattle.rules.specs.Counts.{nought, places_of_counts, no_counts}
use Rattle.rules.specs.Calls.{Outcome}
use Rattle.rules.proofs.Boards.{board_lawful}
use Rattle.rules.proofs.Computed.{compute_calls}
use Rattle.floats.proofs.Count.{board_factor}
use Rattle.ready.proofs.Stays.{Typed}
use Rattle.orders.specs.Orders.{Call, Entry, in_turn, Holds, Commute, OrderPromise}
use Rattle.orders.specs.Feeds.{entering_all, distinct, Reordered, swapped, after, and_then, FeedPromise}
use Rattle.orders.specs.Gaps.{climbing, near, empty_calls, all_done, Crossed, GapPromise}
use Rattle.orders.specs.Worked.{id, entry, enters, used, free, table, turns, worked, as_alone_after, no_place, full, worked_gaps, OneIdPromise}
use Rattle.orders.proofs.Calls.{order_promise}
use Rattle.orders.proofs.Feeds.{feed_promise}
use Rattle.orders.proofs.Gaps.{gap_promise}

-- entries and leaves, in either order
pub orders : (on : Horizon) → OrderPromise (board_of on)
orders on = order_promise (board_of on) (board_lawful on)

-- any number of entries, in any order
pub feeds : (on : Horizon) → FeedPromise (board_of on)
feeds on = feed_promise (board_of on) (board_lawful on)

-- blocks that list nothing, on the way to a block
pub gaps : (on : Horizon) → GapPromise (board_of on)
gaps on = gap_promise (board_of on) (board_lawful on) (board_factor on)

-- Two outcomes that meet the calls' contracts, where the second call was given what the first left, are the two calls in turn. So the compiled calls have the laws.
pub met_in_turn : (p q : Call) (s : State) (xs : List ℕ) (first second : Outcome (List ℕ)) → first ≡ p s xs → second ≡ q first.state first.lent → second ≡ in_turn p q s xs
met_in_turn p q s xs first second e f = f ∙ ap (λ (o : Outcome (List ℕ)). q o.state o.lent) e

-- every worked case, computed
pub cases_hold : T (every (λ b. b) worked)
unfolding compute_calls turns worked
cases_hold = tt

pub gaps_hold : T (every (λ b. b) worked_gaps)
unfolding compute_calls as_alone_after all_done empty_calls worked_gaps
gaps_hold = tt

-- of one id, no place is used if the entry came first, and one if the leave did
pub not_of_one_id : OneIdPromise
unfolding compute_calls OneIdPromise
not_of_one_id alike =
    let none_is_one : ◌≡◌ {A = ℕ} 0 1 = ap (λ (s : State). s.pending) alike.state in
    omega arith

-- ---- the premises can be met

pub two_entries : Commute (enters 7) (enters 9) (used 0) (table (free ++ free))
unfolding compute_calls OrderPromise
two_entries = (orders Horizon.Base (used 0) (table (free ++ free)) tt).entries (entry 7) (entry 9) refl refl refl (lit≤ tt)

-- three entries, and the same from the last to the first
abbrev three : List Entry
three = entry 7 ∷ entry 9 ∷ entry 8 ∷ []

abbrev turned : List Entry
turned = entry 8 ∷ entry 9 ∷ entry 7 ∷ []

turned_three : Reordered three turned
turned_three = and_then (swapped (entry 7) (entry 9)) (and_then (after (entry 9) (swapped (entry 7) (entry 8))) (swapped (entry 9) (entry 8)))

pub three_entries : let xs = table (free ++ free ++ free) in Holds (entering_all base three (used 0) xs) (entering_all base turned (used 0) xs).state (entering_all base turned (used 0) xs).lent
unfolding compute_calls distinct FeedPromise
three_entries = feeds Horizon.Base (used 0) (table (free ++ free ++ free)) tt three turned turned_three refl refl (lit≤ tt)

-- memory of the types that slices have
typed : Typed no_place
unfolding fits
typed = record { pending = tt; recent = tt; confirmed = each; resolved = each }
  where
    each : (i : ℕ) → i < length no_counts → T (fits binary64 (get_or no_counts i nan))
    each i h = rw (get_or-replicate places_of_counts i nought nan (omega (arith, length-replicate places_of_counts nought))) tt

-- from the last height 100, in two steps of 4,096, to a block at 9,000
pub far : Crossed base full no_place 100 (4196 ∷ 8292 ∷ []) (id 7) 9000
unfolding compute_calls climbing near
far = (gaps Horizon.Base).calls full no_place typed refl 100 refl (4196 ∷ 8292 ∷ []) (id 7) 9000 refl refl (lit< tt)
