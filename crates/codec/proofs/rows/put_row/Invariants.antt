-- `codec::rows::put_row` meets its contract. The invariant: the first `i` counts are put. Assumes nothing.
use mathlib.Core.Path.{◌≡◌}
use lib.ListN.{take, drop}
use lib.Seq.{sets}
use Rattle.format.specs.File.{row_bytes}
use Rattle.codec.proofs.rows.put_row.Given as goal

abbrev pub invariant-loop-i : goal.invariant-loop-i
invariant-loop-i l =
    l.out ≡ sets l.initial.out l.at (row_bytes (take l.i (drop l.from l.counts)))
