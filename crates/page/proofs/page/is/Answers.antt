-- `page::page::is` meets its contract.
-- Assumes nothing.
use mathlib.Core.Path.{◌∙◌}
use Rattle.page.proofs.Naming.{equal_same}
use Rattle.page.proofs.page.is.Goals as goal

pub returns : goal.returns
returns c = c.eq.ensures ∙ equal_same c.args.word.now c.args.text.now
