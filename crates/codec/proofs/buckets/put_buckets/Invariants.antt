-- `codec::buckets::put_buckets` meets its contract. The invariant: the first `i` buckets are put; sound counts give each its 25. Assumes nothing.
use mathlib.Core.Path.{◌≡◌}
use lib.Seq.{sets}
use Rattle.codec.proofs.Written.{some_buckets}
use Rattle.codec.proofs.buckets.put_buckets.Given as goal

abbrev pub invariant-loop-i : goal.invariant-loop-i
invariant-loop-i l =
    l.out ≡ sets l.initial.out l.at (some_buckets l.i l.confirmed l.resolved)
