-- The table of rates is the ladder, and so it rises.
-- Assumes nothing.
use mathlib.Core.Path.{◌≡◌}
use mathlib.Core.List.{List}
use mathlib.Core.Bool.{Bool}
use Prim.Native.Nat.{ℕ, ◌<◌}
use lib.Dec.{T, eqb, eqb→eq}
use lib.ListN.{length, get_or}
use Rattle.rules.specs.Ladder.{buckets, ladder}
use Rattle.ladder.specs.declared.TheConstants.{RATES}
use Rattle.ladder.proofs.Table.{at, every}

abbrev right : ℕ → ℕ → Bool
right k x = eqb x (ladder k)

-- a list that passes the test holds the ladder's rate at each place
rule : (xs : List ℕ) → T (every right 0 xs) → (k : ℕ) → k < length xs → get_or xs k 0 ≡ ladder k
rule xs t k h = eqb→eq (get_or xs k 0) (ladder k) (at right xs t k h)

pub rate_of : (k : ℕ) → k < buckets → get_or RATES k 0 ≡ ladder k
unfolding ladder
rate_of k h = rule RATES tt k h
