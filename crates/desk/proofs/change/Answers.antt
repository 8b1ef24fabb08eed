-- `desk::change` meets its contract: each arm of the match is a row of the page. Assumes nothing.
use mathlib.Core.Path.{sym, ap, ◌∙◌}
use Rattle.rules.specs.Slices.{given}
use Rattle.page.specs.declared.page.Operation.{Operation}
use Rattle.std.specs.Prelude.{Option}
use Rattle.std.specs.Bool.{then_some}
use Rattle.rules.specs.Memory.{lent}
use Rattle.desk_calls.specs.declared.calls.Done.{Done}
use Rattle.desk.specs.Desk.{changed, called, silent, in_pending, on_memory, operation_does}
use Rattle.desk.proofs.Rows.{put, by, blocks, reads, others}
use Rattle.desk.proofs.change.Goals as goal

pub returns-in-State : goal.returns-in-State
unfolding operation_does
returns-in-State c = rw c.in_ok-line.was (by _ _ _ _ _ _ Operation.State _ c.in-State.is (put _ _ _ (c.silent-done.ensures ∙ ap silent c.state_in.ensures)))

pub returns-in-Start : goal.returns-in-Start
unfolding operation_does
returns-in-Start c = rw c.in_ok-line.was (by _ _ _ _ _ _ Operation.Start _ c.in-Start.is (ap called c.start-done.ensures))

pub returns-in-Enter : goal.returns-in-Enter
unfolding operation_does in_pending
returns-in-Enter c = rw c.in_ok-line.was (by _ _ _ _ _ _ Operation.Enter _ c.in-Enter.is (ap (in_pending (given c.args.confirmed c.args.resolved c.args.pending c.args.recent)) c.enter-done.ensures))

pub returns-in-Leave : goal.returns-in-Leave
unfolding operation_does in_pending
returns-in-Leave c = rw c.in_ok-line.was (by _ _ _ _ _ _ Operation.Leave _ c.in-Leave.is (ap (in_pending (given c.args.confirmed c.args.resolved c.args.pending c.args.recent)) c.leave-done.ensures))

pub returns-in-Block : goal.returns-in-Block
returns-in-Block c = rw c.in_ok-line.was (ap called c.block-done.ensures ∙ sym (blocks _ _ _ _ _ _ c.in-Block.is))

pub returns-in-Read : goal.returns-in-Read
returns-in-Read c = rw c.in_ok-line.was (ap called c.read-done.ensures ∙ sym (reads _ _ _ _ _ _ c.in-Read.is))

pub returns-in_default : goal.returns-in_default
returns-in_default c =
    rw c.in_ok-line.was
    (ap (λ (o : Option Done). changed o (lent c.lay.new.confirmed c.lay.new.resolved c.lay.new.pending c.lay.new.recent)) (c.then_some.ensures ∙ ap (then_some c.lay.result) c.silent.ensures)
    ∙ ap (on_memory c.args.state) c.lay.ensures
    ∙ sym (others _ _ _ _ _ _ c.in_default.not-State c.in_default.not-Start c.in_default.not-Enter c.in_default.not-Leave c.in_default.not-Block c.in_default.not-BlockRaw c.in_default.not-Read c.in_default.not-Again))
