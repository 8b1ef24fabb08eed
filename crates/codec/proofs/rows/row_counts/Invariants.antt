-- `codec::rows::row_counts` meets its contract. The invariant: the first `i` doubles are stored, and each of the others is a count. Assumes nothing.
use mathlib.Core.Path.{◌≡◌}
use mathlib.Core.Bool.{true}
use lib.ListN.{length, take}
use Rattle.codec.specs.Places.{doubles}
use Rattle.codec.proofs.Counts.{rest_fine}
use Rattle.codec.proofs.rows.row_counts.Given as goal

abbrev pub invariant-loop-i : goal.invariant-loop-i
invariant-loop-i l =
    (length l.counts ≡ 25) × (take l.i l.counts ≡ doubles l.i l.s l.at) × (rest_fine l.s l.at l.i ≡ true)
