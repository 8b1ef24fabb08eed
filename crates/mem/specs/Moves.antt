-- Bytes moved within a list, and zeroed.
-- Assumes nothing.
use Rattle.std.specs.Prelude.{ℕ, ◌+◌, ◌-◌, List, ◌++◌, take, drop, replicate}
use Rattle.std.proofs.Math.Seq.{slice}

-- the bytes from `from` to `to` moved up by `by`; the bytes that they leave stay
unfoldable pub shifted_up : ℕ → ℕ → ℕ → List ℕ → List ℕ
shifted_up from to by xs = take (from + by) xs ++ slice from to xs ++ drop (to + by) xs

-- the bytes from `from + by` to `from + by + n` moved down by `by`
unfoldable pub shifted_down : ℕ → ℕ → ℕ → List ℕ → List ℕ
shifted_down from by n xs = take from xs ++ take n (drop (from + by) xs) ++ drop (from + n) xs

-- zeros from `from` to `to`
unfoldable pub zeroed : ℕ → ℕ → List ℕ → List ℕ
zeroed from to xs = take from xs ++ replicate (to - from) 0 ++ drop to xs
