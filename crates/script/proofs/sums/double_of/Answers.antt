-- `script::sums::double_of` meets its contract: the patterns of a NaN are those above that of infinity, the sign apart.
-- Assumes nothing.
use mathlib.Core.Path.{sym}
use lib.Ieee.{div, of_bits}
use Rattle.script.proofs.Adler.{above_nan, below_no_nan}
use Rattle.script.proofs.sums.double_of.Goals as goal

pub returns-then-bits-gt-INFINITY_BITS : goal.returns-then-bits-gt-INFINITY_BITS
unfolding div of_bits
returns-then-bits-gt-INFINITY_BITS c = sym (above_nan c.args.bits c.if-bits-gt-INFINITY_BITS.true)

pub float_from_bits-result : goal.float_from_bits-result
float_from_bits-result c = below_no_nan c.args.bits c.if-bits-gt-INFINITY_BITS.false
