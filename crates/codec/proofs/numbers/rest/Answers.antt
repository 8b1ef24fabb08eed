-- `codec::numbers::rest` meets its contract: the part from `n` on, or an empty one. Assumes nothing.
use mathlib.Core.Path.{sym}
use Prim.Native.Nat.{◌-◌}
use native.Mathlib.Omega.{arith}
use lib.ListN.{length, drop, length-drop, drop_of_length-le}
use lib.Seq.{take_all}
use Rattle.codec.proofs.numbers.rest.Goals as goal

pub returns-then-n-s : goal.returns-then-n-s
returns-then-n-s c =
    take_all (length c.args.s.now - c.args.n) (drop c.args.n c.args.s.now) (simp length-drop (omega arith))

pub returns-else-n-s : goal.returns-else-n-s
returns-else-n-s c = sym (drop_of_length-le c.args.s.now {i = c.args.n} (omega arith))
