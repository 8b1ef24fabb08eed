-- `decay::put_back` meets its contract. Assumes nothing.
use mathlib.Core.Path.{◌∙◌}
use Rattle.decay.proofs.put_back.Goals as goal

pub returns-then-not-empty : goal.returns-then-not-empty
returns-then-not-empty c = c.row_in.ensures ∙ rw c.if-not-empty.true

pub returns-else-not-empty : goal.returns-else-not-empty
returns-else-not-empty c = rw c.if-not-empty.false
