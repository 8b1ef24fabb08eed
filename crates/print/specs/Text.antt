-- Text in ASCII codes. Assumes nothing.
use Prim.Native.Char.{code}
use Rattle.std.specs.Prelude.{ℕ, List, [], ◌∷◌}
use Prim.Native.String.{String, [] as end, ◌∷◌ as ◌then◌}

-- text, as ASCII codes
abbrev pub Text : Type 0
Text = List ℕ

-- a text's codes
abbrev pub codes : String → Text
codes end = []
codes (c then s) = code c ∷ codes s
