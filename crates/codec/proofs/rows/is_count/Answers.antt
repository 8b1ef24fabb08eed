-- `codec::rows::is_count` meets its contract: a NaN's bits are none, and of others the number is judged. Assumes nothing.
use native.Mathlib.Omega.{arith}
use Rattle.codec.proofs.Counts.{no_nan_below, nan_above}
use Rattle.codec.proofs.rows.is_count.Goals as goal

pub float_from_bits-bits : goal.float_from_bits-bits
float_from_bits-bits c = no_nan_below c.args.bits (omega arith)

pub returns : goal.returns
returns c = nan_above c.args.bits (omega arith)
