-- What is said of a last height h beside a chain's height n is so, by document 01's rules of a block. Assumes nothing.
use mathlib.Core.Path.{◌≡◌}
use mathlib.Core.Bool.{false}
use Prim.Native.Nat.{◌-◌, ◌≤◌, ◌<◌}
use native.Mathlib.Omega.{arith}
use borrow.Author.Tests.{lt-ltb, le-ltb}
use Rattle.kinds.specs.declared.Height.{Height}
use Rattle.std.specs.Prelude.{Some}
use Rattle.rules.specs.Calls.{gap, widest_gap}
use Rattle.rules.specs.Estimator.{advances}
use Rattle.premise.specs.Premise.{ahead, behind, level, beside}

-- h is above n: so it is said, and no block up to h advances anything
pub is_ahead : (h n : Height) → n.0 < h.0 → beside h.0 n.0 ≡ ahead h.0 n.0
unfolding beside
is_ahead h n a = rw (lt-ltb _ _ a)

pub stands_still : (h b : Height) → b.0 ≤ h.0 → advances (Some h) b.0 ≡ false
unfolding advances
stands_still h b a = le-ltb _ _ a

-- h is more than 4,096 below n: so it is said, and a block at n or above it is refused for its gap
pub is_behind : (h n : Height) → h.0 ≤ n.0 → widest_gap < n.0 - h.0 → beside h.0 n.0 ≡ behind h.0 n.0
unfolding beside
is_behind h n a g = rw (le-ltb _ _ a, lt-ltb _ _ g)

pub too_wide : (h n b : Height) → widest_gap < n.0 - h.0 → n.0 ≤ b.0 → widest_gap < gap (Some h) b
unfolding gap
too_wide h n b g a = omega arith

-- h is neither: so it is said, and no block up to n is refused for its gap
pub is_level : (h n : Height) → h.0 ≤ n.0 → n.0 - h.0 ≤ widest_gap → beside h.0 n.0 ≡ level h.0 n.0
unfolding beside
is_level h n a g = rw (le-ltb _ _ a, le-ltb _ _ g)

pub narrow : (h n b : Height) → n.0 - h.0 ≤ widest_gap → b.0 ≤ n.0 → gap (Some h) b ≤ widest_gap
unfolding gap
narrow h n b g a = omega arith
