-- A number in big-endian bytes, at a place. Assumes nothing.
use Rattle.std.specs.Prelude.{ℕ, zero, suc, ◌+◌, ◌*◌, List, get_or}

-- the number in the n bytes of s from `at` on, the first byte the highest
unfoldable pub be_at : ℕ → List ℕ → ℕ → ℕ
be_at zero s at = 0
be_at (suc n) s at = get_or s (at + n) 0 + 256 * be_at n s at
