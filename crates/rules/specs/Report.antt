-- How many single additions to resolved counts a block makes (document 02, L11): the tallies of document 01's steps. Each definition stands beside the step of
-- Estimator.antt that counts, and has that step's own test of the columns that gain. Assumes nothing.
use Rattle.std.specs.Prelude.{◌≡◌, ℕ, zero, suc, ◌+◌, ◌-◌, ◌<◌, Bool, true, false, cond, List, [], ◌∷◌, Option, None, Some}
use Rattle.kinds.specs.Last.{Last}
use Rattle.rules.specs.Lists.{bit}
use Rattle.rules.specs.Ids.{Id}
use Rattle.rules.specs.Ladder.{buckets}
use Rattle.rules.specs.Counts.{columns, places_of_counts, gains_at}
use Rattle.rules.specs.Board.{Board, Pending}
use Rattle.rules.specs.Estimator.{Estimator, find, holds, unresolved, expiring, advances, advance_heights, skip_heights, confirm, confirm_all}

-- ---- the additions of `gain`

-- f 0 to f (n - 1) together
unfoldable pub sum : ℕ → (ℕ → ℕ) → ℕ
sum zero f = 0
sum (suc n) f = f n + sum n f

-- how many of the columns 1 to 25 pass the test
unfoldable pub gained : (ℕ → Bool) → ℕ
gained gains = sum columns (λ c. bit (gains (suc c)))

-- `gain` adds one at exactly so many of the 3,550 places
unfoldable pub GainPromise : Type 0
GainPromise = (b : ℕ) (gains : ℕ → Bool) → b < buckets → sum places_of_counts (λ n. bit (gains_at b gains n)) ≡ gained gains

-- of records in turn, each with its test
unfoldable pub additions : (Pending → ℕ → Bool) → List Pending → ℕ
additions gains [] = 0
additions gains (r ∷ rs) = gained (gains r) + additions gains rs

-- ---- the steps of a block

-- a record that is confirmed, if there is one: each column above resolved-through
unfoldable pub adds_found : Option Pending → ℕ
adds_found None = 0
adds_found (Some r) = gained (unresolved r)

-- a listed id: none if its confirmed record holds exactly B
unfoldable pub adds_confirm : ℕ → Id → Estimator → ℕ
adds_confirm B i s = cond (holds i B s.recent) 0 (adds_found (find i s.pending))

-- the listed ids, in the order of the list
unfoldable pub adds_all : Board → ℕ → List Id → Estimator → ℕ
adds_all k B [] s = 0
adds_all k B (i ∷ is) s = adds_confirm B i s + adds_all k B is (confirm k B i s)

-- a height: of each pending record the columns above resolved-through up to what it has outwaited
unfoldable pub adds_expire : Board → ℕ → List Pending → ℕ
adds_expire k h rs = additions (expiring k h) rs

-- the n heights after L, one by one
unfoldable pub adds_heights : Board → ℕ → ℕ → Estimator → ℕ
adds_heights k L zero s = 0
adds_heights k L (suc n) s = adds_expire k (L + suc n) (advance_heights k L n s).pending + adds_heights k L n s

-- the skipped heights
unfoldable pub adds_skip : Board → Last → ℕ → Estimator → ℕ
adds_skip k None B s = 0
adds_skip k (Some L) B s = adds_heights k L.0 (B - suc L.0) s

-- the block's own height, if it advances
unfoldable pub adds_finish : Board → Bool → ℕ → Estimator → ℕ
adds_finish k true B s = adds_expire k B s.pending
adds_finish k false B s = 0

-- Block (ids, height B): the skipped heights, the listed ids, its own height.
unfoldable pub adds : Board → List Id → ℕ → Estimator → ℕ
adds k ids B s =
    let t = skip_heights k s.last B s in
    adds_skip k s.last B s + adds_all k B ids t + adds_finish k (advances s.last B) B (confirm_all k B ids t)
