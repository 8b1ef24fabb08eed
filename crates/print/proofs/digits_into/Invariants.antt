-- `print::digits_into` meets its contract: the digits of what is left, and those put so far, are those of n. Assumes nothing.
use mathlib.Core.Path.{◌≡◌}
use mathlib.Core.List.{◌++◌}
use Prim.Native.Nat.{◌^◌, ◌≤◌, ◌<◌}
use lib.ListN.{length, drop}
use Rattle.print.specs.Numerals.{decimal_in, decimal}
use Rattle.print.proofs.digits_into.Given as goal

abbrev pub invariant-loop-rest : goal.invariant-loop-rest
invariant-loop-rest l = record {
  length_is : length l.text ≡ 20;
  at_most : l.at ≤ 20;
  at_least : 0 < l.at;
  fits : l.rest < 10 ^ l.at;
  value : decimal_in l.at l.rest ++ drop l.at l.text ≡ decimal l.n;
}

abbrev pub decreases-loop-rest : goal.decreases-loop-rest
decreases-loop-rest l = l.rest
