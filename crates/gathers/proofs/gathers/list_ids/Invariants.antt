-- `gathers::gathers::list_ids` meets its contract. The invariant: what is left to list, from this page on, makes the whole.
-- Assumes nothing.
use mathlib.Core.Path.{◌≡◌}
use Prim.Native.Nat.{◌-◌}
use lib.ListN.{length}
use Rattle.print.specs.Page.{page}
use Rattle.page.specs.Page.{most_ids}
use Rattle.gathers.specs.Gathers.{listed}
use Rattle.gathers.proofs.gathers.list_ids.Given as goal

abbrev pub invariant-loop : goal.invariant-loop
invariant-loop l = record {
  same_length : length l.buffer ≡ length l.initial.buffer;
  whole : listed most_ids l.text l.at (page l.initial.buffer 0) ≡ listed (most_ids - l.counter) l.text l.from (page l.buffer l.k);
}
