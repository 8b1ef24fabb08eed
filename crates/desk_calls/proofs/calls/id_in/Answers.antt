-- `calls::calls::id_in` meets its contract. Assumes nothing.
use mathlib.Core.Path.{ap, ◌∙◌}
use Rattle.print.specs.Page.{Page}
use Rattle.desk_calls.proofs.Laid.{id_is}
use Rattle.desk_calls.proofs.calls.id_in.Goals as goal

pub returns : goal.returns
returns c = ap (λ (p : Page). p.bytes) c.put.ensures ∙ id_is _
