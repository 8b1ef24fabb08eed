-- `room::count::count_new` meets its contract. Assumes nothing.
use lib.ListN.{drop}
use Rattle.rules.specs.Board.{board_of}
use Rattle.rules.specs.Memory.{pending_records, confirmed_records}
use Rattle.room.specs.Room.{comes_new, marked_count}
use Rattle.lists.proofs.Loop.{Counting}
use Rattle.room.proofs.count.count_new.Given as goal

abbrev pub invariant-loop-i : goal.invariant-loop-i
invariant-loop-i l =
    Counting (λ j. marked_count (comes_new (board_of l.on) l.skipped (confirmed_records l.kept l.recent)) (drop j l.marks) (drop j (pending_records (board_of l.on) l.used l.pending))) l.used l.n l.i
