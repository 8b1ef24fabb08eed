-- `script::numbers::number_in` meets its contract. The invariant: what is left, read after the number so far, says the whole number.
-- Assumes nothing.
use mathlib.Core.Path.{◌≡◌}
use Prim.Native.Nat.{◌≤◌}
use Rattle.script.specs.Digits.{number_of}
use Rattle.script.proofs.Reading.{left}
use Rattle.script.proofs.numbers.number_in.Given as goal

abbrev pub invariant-loop-x : goal.invariant-loop-x
invariant-loop-x l = record {
  within : l.n ≤ l.most;
  whole : number_of l.base l.most l.word ≡ left l.base l.most l.word l.n l.x-index;
}
