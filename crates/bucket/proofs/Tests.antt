-- Rows that hold only zeros: how their counts are tested. Assumes nothing.
use mathlib.Core.Path.{◌≡◌, ap, ◌∙◌}
use mathlib.Core.Bool.{not}
use Prim.Native.Nat.{ℕ, ◌+◌, ◌*◌, ◌≤◌}
use native.Mathlib.Omega.{arith}
use lib.ListN.{length, get_or}
use lib.Ieee.{Float, nan, binary64, of_bits, eq, ne}
use Rattle.rules.specs.Counts.{Counts, columns, nought, cell, is_zero}
use Rattle.floats.proofs.Bits.{zero_is}
use Rattle.floats.proofs.Zeros.{zero_tested}
use Rattle.lists.proofs.Lists.{get_or_within}

-- the source's `x == 0.0`
pub is_tested : (x : Float) → eq x (of_bits binary64 0) ≡ is_zero x
is_tested x = ap (eq x) zero_is ∙ zero_tested x

-- the source's `counts[last] != 0.0`, in bucket b
pub last_tested : (b : ℕ) (xs : Counts) → b * 25 + 25 ≤ length xs → ne (get_or xs (b * 25 + 24) nan) (of_bits binary64 0) ≡ not (is_zero (cell xs b columns))
unfolding ne
last_tested b xs h = ap (λ (x : Float). not (eq x (of_bits binary64 0))) (get_or_within xs (b * 25 + 24) nan nought (omega arith)) ∙ ap not (is_tested (cell xs b columns))
