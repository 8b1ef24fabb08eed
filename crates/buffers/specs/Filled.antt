-- What a buffer holds of an input that was read, where it is known which bytes the input gives. Assumes nothing.
use Rattle.std.specs.Prelude.{◌≡◌, ℕ, List, length, take, Option, IfSome}

-- the first n bytes of the buffer are those of the input, or as many of them as fit
abbrev pub Filled : Option (List ℕ) → List ℕ → ℕ → Type 0
Filled known buf n = IfSome known (λ xs. take n buf ≡ take (length buf) xs)
