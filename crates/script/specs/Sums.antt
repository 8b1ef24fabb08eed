-- Adler-32. Assumes nothing.
use Rattle.std.specs.Prelude.{ℕ, ◌+◌, ◌*◌, ◌%◌, List, [], ◌∷◌, ◌++◌, fold, Float}
use Rattle.std.specs.Float.{binary64}
use Rattle.std.specs.Float.Ieee.{to_bits}
use Rattle.rules.specs.Bytes.{bytes}

-- the two parts of a sum on the way
pub record Parts : Type 0 where
  pub a : ℕ
  pub b : ℕ

-- no byte yet
abbrev pub begun : Parts
begun = record { a = 1; b = 0 }

-- one byte more
unfoldable pub step : Parts → ℕ → Parts
step s x = record { a = (s.a + x) % 65521; b = (s.b + (s.a + x) % 65521) % 65521 }

-- the bytes, one after the other
abbrev pub adler : Parts → List ℕ → Parts
adler = fold step

-- a sum as one number
abbrev pub total : Parts → ℕ
total s = s.b * 65536 + s.a

-- the sum of bytes
unfoldable pub adler32 : List ℕ → ℕ
adler32 xs = total (adler begun xs)

-- doubles as eight bytes each, the lowest first; `to_bits` gives a NaN the pattern 7ff8000000000000
unfoldable pub doubles : List Float → List ℕ
doubles [] = []
doubles (x ∷ xs) = bytes 8 (to_bits binary64 x) ++ doubles xs
