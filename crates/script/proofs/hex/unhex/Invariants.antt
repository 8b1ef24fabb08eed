-- `script::hex::unhex` meets its contract. The invariant: the first i bytes are those that the pairs say, and the others are as they were.
-- Assumes nothing.
use mathlib.Core.Path.{◌≡◌}
use lib.ListN.{length}
use Rattle.lists.proofs.Swept.{swept}
use Rattle.script.specs.Hex.{hex_bytes}
use Rattle.script.proofs.hex.unhex.Given as goal

abbrev pub invariant-loop-i : goal.invariant-loop-i
invariant-loop-i l = record {
  same_length : length l.out ≡ length l.initial.out;
  swept_so_far : l.out ≡ swept l.initial.out (hex_bytes l.word) l.i;
}
