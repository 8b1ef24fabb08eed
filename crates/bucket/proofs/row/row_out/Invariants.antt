use mathlib.Core.Path.{◌≡◌}
use lib.ListN.{length}
use Rattle.lists.specs.Part.{part}
use Rattle.lists.proofs.Swept.{swept}
use Rattle.bucket.proofs.row.row_out.Given as goal

abbrev pub invariant-loop-i : goal.invariant-loop-i
invariant-loop-i l = (length l.initial.row ≡ 25) × (l.row ≡ swept l.initial.row (part 25 l.b l.counts) l.i)
