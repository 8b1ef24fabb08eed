-- `codec::numbers::take` meets its contract: the part handed back starts where the lent bytes do. Assumes nothing.
use mathlib.Core.Path.{refl, sym}
use native.Mathlib.Omega.{arith}
use lib.Seq.{length-take-le, take_all}
use Rattle.codec.proofs.numbers.take.Goals as goal

pub slice_bounds-result-end : goal.slice_bounds-result-end
slice_bounds-result-end c = sym (length-take-le c.args.n c.args.s.now (omega arith))

pub returns-else-n-s : goal.returns-else-n-s
returns-else-n-s c = (refl, sym (take_all c.args.n c.args.s.now (omega arith)))
