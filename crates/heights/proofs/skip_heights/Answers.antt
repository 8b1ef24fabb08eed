-- `heights::skip_heights` meets its contract: with no last height, or none below h, nothing is done; else the heights between are advanced. Assumes nothing.
use native.Mathlib.Omega.{arith}
use Rattle.rules.specs.Board.{board_of}
use Rattle.rules.proofs.Boards.{board_lawful}
use Rattle.rules.specs.Memory.{Lent, lent}
use Rattle.heights.proofs.Skip.{no_last, none_between, between}
use Rattle.heights.proofs.skip_heights.Goals as goal
use Rattle.heights.proofs.skip_heights.Goals.{Start}

-- the memory at entry
abbrev given : Start → Lent
given s = lent s.args.confirmed.now s.args.resolved.now s.args.pending.now s.args.recent.now

pub returns-in_default : goal.returns-in_default
returns-in_default c =
    no_last (board_of c.args.on) (board_lawful c.args.on) c.args.state (given (goal.at.returns-in_default c).Start) c.args.h.0 c.requires c.in_default.is

pub returns-then-to-from : goal.returns-then-to-from
returns-then-to-from c =
    none_between (board_of c.args.on) (board_lawful c.args.on) c.args.state (given (goal.at.returns-then-to-from c).Start) c.args.h.0 c.requires c.in-Some.is c.if-to-from.true

pub returns : goal.returns
returns c =
    between (board_of c.args.on) (board_lawful c.args.on) c.args.state (given (goal.at.returns c).Start) c.args.h.0 _ c.in-Some.is (omega arith) c.advance_heights.ensures
