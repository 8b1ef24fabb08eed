-- `expiry::keep::drop_resolved` meets its contract: the test of the field is the rules'. Assumes nothing.
use Rattle.rules.specs.Board.{pending_of}
use Rattle.expiry.proofs.keep.drop_resolved.Goals as goal

pub returns : goal.returns
unfolding pending_of
returns c = record { value = c.keep_passing.ensures.value; table_after = c.keep_passing.ensures.table_after }
