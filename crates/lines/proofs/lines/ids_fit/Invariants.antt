-- `lines::lines::ids_fit` meets its contract. The invariant: what is left, with so many ids allowed, fits as the whole does.
-- Assumes nothing.
use mathlib.Core.Path.{◌≡◌}
use Prim.Native.Nat.{◌-◌}
use Rattle.page.specs.Page.{most_ids}
use Rattle.lines.specs.Lines.{ids_from}
use Rattle.lines.proofs.lines.ids_fit.Given as goal

abbrev pub invariant-loop : goal.invariant-loop
invariant-loop l = ids_from most_ids l.line l.at ≡ ids_from (most_ids - l.counter) l.line l.from
