-- The chain's height, as a word says it. Assumes nothing.
use Rattle.std.specs.Prelude.{ℕ, List, Option}
use Rattle.std.specs.Option.{option_map}
use Rattle.kinds.specs.declared.Height.{Height}
use Rattle.script.specs.Digits.{number_of}

-- one decimal digit or more, and at most 2^32 - 1: a height; anything else tells none
unfoldable pub chain_of : List ℕ → Option Height
chain_of word = option_map (λ n. record { 0 = n }) (number_of 10 4294967295 word)
