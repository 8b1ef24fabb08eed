-- What a line of a script does to a board's lent memory and to its state, and what it is answered with. Assumes nothing.
use Rattle.std.specs.Prelude.{List, ℕ, Option, Some, None}
use Rattle.std.specs.Bool.{then_some}
use Rattle.kinds.specs.declared.Horizon.{Horizon}
use Rattle.kinds.specs.declared.State.{State}
use Rattle.rules.specs.Memory.{Lent, lent}
use Rattle.page.specs.declared.page.Operation.{Operation}
use Rattle.lines.specs.declared.lines.Line.{Line}
use Rattle.desk_lays.specs.Lays.{Lain, operation_lays}
use Rattle.desk_calls.specs.declared.calls.Reply.{Reply}
use Rattle.desk_calls.specs.declared.calls.Done.{Done}
use Rattle.desk_calls.specs.Calls.{Did, done, state_of, enter_does, leave_does, block_does, start_does, read_does}

-- all that can be seen of a line: what it has done, if it fits, and the lent memory after it
pub record Changed : Type 0 where
  pub done : Option Done
  pub lent : Lent

-- the two
abbrev pub changed : Option Done → Lent → Changed
changed d l = record { done = d; lent = l }

-- no answer
abbrev pub silent : State → Done
silent s = done Reply.Silent s

-- a call fits always
abbrev pub called : Did Lent → Changed
called d = changed (Some d.done) d.lent

-- a call that is lent the pending table alone
unfoldable pub in_pending : Lent → Did (List ℕ) → Changed
in_pending l d = changed (Some d.done) (lent l.confirmed l.resolved d.lent l.recent)

-- a line that does this to the lent memory itself, and nothing else
abbrev pub on_memory : State → Lain → Changed
on_memory s m = changed (then_some m.fits (silent s)) m.lent

-- the page, row by row; a line that only asks does nothing, as `desk_lays` has it. How much is lent by a `lend`, that the state is then the empty one, and which
-- board comes after a `board`, the run sees to
unfoldable pub operation_does : Horizon → Operation → Line → State → List ℕ → Lent → Changed
operation_does on Operation.PassedOver line s text l = on_memory s (operation_lays Operation.PassedOver line text l)
operation_does on Operation.Board line s text l = on_memory s (operation_lays Operation.Board line text l)
operation_does on Operation.Lend line s text l = on_memory s (operation_lays Operation.Lend line text l)
operation_does on Operation.Byte line s text l = on_memory s (operation_lays Operation.Byte line text l)
operation_does on Operation.Count line s text l = on_memory s (operation_lays Operation.Count line text l)
operation_does on Operation.State line s text l = changed (Some (silent (state_of line))) l
operation_does on Operation.Start line s text l = called (start_does on s l)
operation_does on Operation.Enter line s text l = in_pending l (enter_does on line s text l.pending)
operation_does on Operation.Leave line s text l = in_pending l (leave_does on s text l.pending)
operation_does on Operation.Block line s text l = called (block_does on line s text l)
operation_does on Operation.BlockRaw line s text l = called (block_does on line s text l)
operation_does on Operation.Estimate line s text l = on_memory s (operation_lays Operation.Estimate line text l)
operation_does on Operation.Estimates line s text l = on_memory s (operation_lays Operation.Estimates line text l)
operation_does on Operation.Bucket line s text l = on_memory s (operation_lays Operation.Bucket line text l)
operation_does on Operation.Write line s text l = on_memory s (operation_lays Operation.Write line text l)
operation_does on Operation.Read line s text l = called (read_does on s text l)
operation_does on Operation.Again line s text l = called (read_does on s text l)
operation_does on Operation.Sum line s text l = on_memory s (operation_lays Operation.Sum line text l)

-- what a line with these bytes does on a board; one that does not fit does nothing
abbrev pub line_does : Horizon → Option Line → State → List ℕ → Lent → Changed
line_does on None s text l = changed None l
line_does on (Some line) s text l = operation_does on line.operation line s text l
