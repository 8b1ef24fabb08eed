-- `parse::buckets::load_buckets` meets its contract. The invariant: the rows of the first `i` buckets are stored, from the front. Assumes nothing.
use mathlib.Core.Path.{◌≡◌}
use Prim.Native.Nat.{◌+◌, ◌-◌, ◌≤◌}
use lib.ListN.{length}
use lib.Seq.{sets}
use Rattle.codec.specs.Places.{rows_at}
use Rattle.parse.proofs.buckets.load_buckets.Given as goal

abbrev pub invariant-loop-i : goal.invariant-loop-i
invariant-loop-i l =
    (l.i ≤ 142)
    × (((length l.confirmed ≡ length l.initial.confirmed) × (length l.resolved ≡ length l.initial.resolved))
    × ((l.confirmed ≡ sets l.initial.confirmed 0 (rows_at l.i l.s (l.at + 8))) × (l.resolved ≡ sets l.initial.resolved 0 (rows_at l.i l.s (l.at + 208)))))

abbrev pub decreases-loop-i : goal.decreases-loop-i
decreases-loop-i l = 142 - l.i
