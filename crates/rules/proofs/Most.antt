-- How many records a table holds at the most: 10,000 pending and 1,000,000 confirmed ones, in each definition that asks for the number. Told of a slice's length,
-- since lists of so many bytes are dear to compute with. Assumes nothing.
use mathlib.Core.Path.{◌≡◌, refl, ap, ◌∙◌}
use mathlib.Core.Bool.{Bool, true, false, ◌||◌, cond}
use mathlib.Core.List.{List}
use Prim.Native.Nat.{ℕ, ◌/◌, min, ◌≤◌}
use lib.ListN.{length}
use borrow.Author.Tests.{le-leb}
use Rattle.rules.specs.Ids.{Id, placed}
use Rattle.rules.specs.Board.{Board, Pending, base}
use Rattle.rules.specs.Estimator.{is_pending, admit}
use Rattle.rules.specs.Memory.{pending_capacity, confirmed_capacity}
use Rattle.rules.proofs.Well.{newcomer}
use Rattle.rules.proofs.Placing.{Free, ordered, admit_free}

-- ---- places

-- what the bytes hold, and never more than the number
pub pending_places : (k : Board) (xs : List ℕ) → pending_capacity k xs ≡ min (length xs / k.table.size) 10000
pending_places k xs = refl

pub confirmed_places : (xs : List ℕ) → confirmed_capacity xs ≡ min (length xs / 36) 1000000
confirmed_places xs = refl

-- any slice of n bytes has so many places for pending records, and so many for confirmed ones
abbrev Places : ℕ → ℕ → ℕ → Type 0
Places n pending confirmed = (xs : List ℕ) → length xs ≡ n → (pending_capacity base xs ≡ pending) × (confirmed_capacity xs ≡ confirmed)

places : (n : ℕ) → Places n (min (n / 44) 10000) (min (n / 36) 1000000)
places n xs e = (pending_places base xs ∙ ap (λ (m : ℕ). min (m / 44) 10000) e, confirmed_places xs ∙ ap (λ (m : ℕ). min (m / 36) 1000000) e)

-- a byte short of 10,000 pending records, their bytes, and those of one more; and so for 1,000,000 confirmed records
pub most : Places 439999 9999 12222 × Places 440000 10000 12222 × Places 440044 10000 12223
    × Places 35999999 10000 999999 × Places 36000000 10000 1000000 × Places 36000036 10000 1000000
most = (places 439999, places 440000, places 440044, places 35999999, places 36000000, places 36000036)

-- ---- an entry

-- beside 10,000 records it is ignored
pub admit_full : (i : Id) (rate h : ℕ) (rs : List Pending) → 10000 ≤ length rs → admit i rate h rs ≡ rs
unfolding admit
admit_full i rate h rs full = rw (le-leb 10000 (length rs) full) (go (is_pending i rs))
  where
    go : (b : Bool) → cond (b || true) rs (placed (λ r. r.id) (newcomer i rate h) rs) ≡ rs
    go true = refl
    go false = refl

-- beside fewer, where its id is not pending, it is stored
pub admit_below : (i : Id) (rate h : ℕ) (rs : List Pending) → Free 10000 i rs → admit i rate h rs ≡ ordered (λ r. r.id) (newcomer i rate h) rs
admit_below i rate h rs free = admit_free i rate h rs free
