-- Bytes in pairs of hexadecimal digits. Assumes nothing.
use Rattle.std.specs.Prelude.{ℕ, ◌+◌, ◌*◌, ◌-◌, ◌/◌, ◌%◌, Bool, ◌&&◌, not, cond, List, [], ◌∷◌, ◌++◌, leb, eqb, length, drop, replicate, Option, Some, None, is_some}
use Rattle.std.specs.List.{list_all}
use Rattle.script.specs.Digits.{digit, digit_of, number_of}

-- pairs of digits
unfoldable pub is_hex : List ℕ → Bool
is_hex w = eqb (length w % 2) 0 && list_all (λ x. is_some (digit_of x)) w

-- the bytes that the pairs say
unfoldable pub hex_bytes : List ℕ → List ℕ
hex_bytes [] = []
hex_bytes (x ∷ []) = []
hex_bytes (x ∷ y ∷ w) = (digit x * 16 + digit y) ∷ hex_bytes w

-- how many bytes were put, if the word is pairs of digits, and a buffer's bytes after it
pub record Filled : Type 0 where
  pub answer : Option ℕ
  pub bytes : List ℕ

-- an answer with these bytes after it
abbrev pub filled : Option ℕ → List ℕ → Filled
filled answer bytes = record { answer = answer; bytes = bytes }

-- the bytes that a word says stand first in the buffer, if there is room
unfoldable pub hex_into : List ℕ → List ℕ → Filled
hex_into w out =
    cond (leb (length w / 2) (length out) && is_hex w) (filled (Some (length w / 2)) (hex_bytes w ++ drop (length w / 2) out)) (filled None out)

-- 1 to `most` bytes
abbrev pub some_bytes : ℕ → List ℕ → Bool
some_bytes most w = not (eqb (length w) 0) && (leb (length w / 2) most && is_hex w)

-- 1 to 32 bytes
unfoldable pub is_id : List ℕ → Bool
is_id w = some_bytes 32 w

-- the bytes of an id, with zeros at the right; of no id, zeros
unfoldable pub id_bytes : List ℕ → List ℕ
id_bytes w = cond (is_id w) (hex_bytes w ++ replicate (32 - length w / 2) 0) (replicate 32 0)

-- an id, where a word says one
abbrev pub id_of : List ℕ → Option (List ℕ)
id_of w = cond (is_id w) (Some (id_bytes w)) None

-- 16 digits
unfoldable pub pattern_of : List ℕ → Option ℕ
pattern_of w = cond (eqb (length w) 16) (number_of 16 18446744073709551615 w) None
