-- Eight bytes as a number. Assumes nothing.
use Rattle.std.specs.Prelude.{ℕ, ◌+◌, ◌*◌}

-- the number of a higher and a lower word of four bytes each
abbrev pub two_words : ℕ → ℕ → ℕ
two_words high low = 4294967296 * high + low
