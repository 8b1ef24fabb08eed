-- `page::page::allowed` meets its contract.
-- Assumes nothing.
use Rattle.page.specs.Page.{found, allowed, operation_of}
use Rattle.page.proofs.Naming.{option_map-cond, option_or-None}
use Rattle.page.proofs.page.allowed.Goals as goal

pub returns-then-begun : goal.returns-then-begun
unfolding found allowed operation_of
returns-then-begun c = rw (c.if-begun.true, c.or.ensures, c.found-opening.ensures, c.found.ensures) (simp option_map-cond)

pub returns : goal.returns
unfolding found allowed
returns c = rw (c.if-begun.false, option_or-None, c.found-opening.ensures) (simp option_map-cond)
