-- `room::count::count_staying` meets its contract. Assumes nothing.
use lib.Dec.{leb}
use lib.ListN.{drop}
use Rattle.rules.specs.Lists.{count}
use Rattle.rules.specs.Memory.{confirmed_records}
use Rattle.lists.proofs.Loop.{Counting}
use Rattle.room.proofs.count.count_staying.Given as goal

abbrev pub invariant-loop-i : goal.invariant-loop-i
invariant-loop-i l = Counting (λ j. count (λ c. leb l.low c.height) (drop j (confirmed_records l.kept l.recent))) l.kept l.n l.i
