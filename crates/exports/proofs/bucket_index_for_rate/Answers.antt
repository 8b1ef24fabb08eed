-- `exports::bucket_index_for_rate` meets its contract. Assumes nothing.
use mathlib.Core.Path.{sym, ◌∙◌}
use Rattle.boundary.proofs.Lookup.{numbered}
use Rattle.exports.proofs.bucket_index_for_rate.Goals as goal

pub returns-in-None : goal.returns-in-None
returns-in-None c = numbered _ _ (sym c.in-None.is ∙ c.bucket_index_for_rate.ensures)

pub returns-in-Some : goal.returns-in-Some
returns-in-Some c = numbered _ _ (sym c.in-Some.is ∙ c.bucket_index_for_rate.ensures)
