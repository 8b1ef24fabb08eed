-- `starts::new` meets its contract: each of its answers is the definition's, by the laws of `Starting`. Assumes nothing.
use native.Mathlib.Omega.{arith}
use Rattle.rules.specs.Board.{board_of}
use Rattle.rules.specs.Memory.{Lent, lent}
use Rattle.starts.proofs.Starting.{start_few, start_fewer, start_done}
use Rattle.starts.proofs.new.Goals as goal
use Rattle.starts.proofs.new.Goals.{Start}

abbrev given : Start → Lent
given s = lent s.args.confirmed.now s.args.resolved.now s.args.pending.now s.args.recent.now

pub returns-then-confirmed-lt-COUNTS : goal.returns-then-confirmed-lt-COUNTS
returns-then-confirmed-lt-COUNTS c = start_few (board_of c.args.on) (given (goal.at.returns-then-confirmed-lt-COUNTS c).Start) c.if-confirmed-lt-COUNTS.true

pub returns-then-resolved-lt-COUNTS : goal.returns-then-resolved-lt-COUNTS
returns-then-resolved-lt-COUNTS c =
    start_fewer (board_of c.args.on) (given (goal.at.returns-then-resolved-lt-COUNTS c).Start) c.if-confirmed-lt-COUNTS.false (omega arith)

pub returns : goal.returns
returns c =
    start_done (board_of c.args.on) (given (goal.at.returns c).Start) (omega arith) (omega arith) _ c.empty.ensures c.record_size.ensures.value
    c.clear_counts.ensures c.clear_counts-2.ensures c.clear_table.ensures c.clear_table-2.ensures
