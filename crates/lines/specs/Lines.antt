-- What a line of a script asks for. Assumes nothing.
use Rattle.std.specs.Prelude.{ℕ, zero, suc, ◌+◌, ◌-◌, Bool, true, ◌&&◌, ◌||◌, cond, List, [], ◌∷◌, ltb, eqb, length, take, drop, Option, Some, None}
use Rattle.std.specs.Bool.{then_some}
use Rattle.std.specs.Option.{option_map, option_and_then}
use Rattle.std.specs.declared.ops.Range.{Range}
use Rattle.kinds.specs.declared.Horizon.{Horizon}
use Rattle.rules.specs.Ids.{same}
use Rattle.script.specs.Words.{word_from}
use Rattle.script.specs.Digits.{number_of}
use Rattle.script.specs.Hex.{some_bytes, is_id, pattern_of}
use Rattle.page.specs.Words.{Text, narrow, wide, pending, confirmed, resolved, nan, dash}
use Rattle.page.specs.Page.{allowed, fields_of, most_history, most_short, most_ids}
use Rattle.page.specs.declared.page.Operation.{Operation}
use Rattle.page.specs.declared.page.Field.{Field}
use Rattle.lines.specs.declared.lines.Line.{Line}
use Rattle.lines.specs.declared.lines.Taken.{Taken}

-- ---- what a word says

-- a last height plus 1, or 0 for `-`
unfoldable pub last_of : Text → Option ℕ
last_of w = cond (same w dash) (Some 0) (option_map (λ h. h + 1) (number_of 10 most_short w))

-- the bits of a double, 7ff8000000000000 for `nan`
unfoldable pub bits_of : Text → Option ℕ
bits_of w = cond (same w nan) (Some 9221120237041090560) (pattern_of w)

-- 0 for the first of two words, 1 for the second
unfoldable pub one_of : Text → Text → Text → Option ℕ
one_of first second w = cond (same w first) (Some 0) (cond (same w second) (Some 1) None)

-- bytes in digits, or `-` for none
unfoldable pub any_of : Text → Bool
any_of w = same w dash || some_bytes most_history w

-- what a word that begins at `from` says as a field
abbrev pub value_of : Field → ℕ → Text → Option ℕ
value_of (Field.Number most) from w = number_of 10 most w
value_of Field.Last from w = last_of w
value_of Field.Pattern from w = bits_of w
value_of Field.Table from w = one_of pending confirmed w
value_of Field.Kind from w = one_of confirmed resolved w
value_of Field.Board from w = one_of narrow wide w
value_of (Field.Bytes most) from w = then_some (some_bytes most w) from
value_of Field.Any from w = then_some (any_of w) from
value_of Field.Ids from w = None
value_of Field.Nothing from w = None

-- ---- the words of a line, one after the other

-- what stands at a word's place
abbrev pub text_of : List ℕ → Range ℕ → Text
text_of line w = take (w.end - w.start) (drop w.start line)

-- all words from `at` on are ids, n at most
unfoldable pub ids_from : ℕ → List ℕ → ℕ → Bool
ids_from zero line at = ltb (length line) at
ids_from (suc n) line at = ltb (length line) at || (is_id (text_of line (word_from line at)) && ids_from n line ((word_from line at).end + 1))

-- what is taken where words before the next one say this
abbrev pub taken : ℕ → Option ℕ → Option Taken
taken next v = option_map (λ n. record { at = next; value = n }) v

-- the next word, as a field
unfoldable pub take_word : List ℕ → ℕ → Field → Option Taken
take_word line at f = let w = word_from line at in taken (w.end + 1) (value_of f w.start (text_of line w))

-- all words that are left, as ids
unfoldable pub take_ids : List ℕ → ℕ → Option Taken
take_ids line at = taken (length line + 1) (then_some (ids_from most_ids line at) at)

-- a field, from `at` on
unfoldable pub take_field : List ℕ → ℕ → Field → Option Taken
take_field line at Field.Nothing = Some (record { at = at; value = 0 })
take_field line at Field.Ids = take_ids line at
take_field line at (Field.Number most) = take_word line at (Field.Number most)
take_field line at Field.Last = take_word line at Field.Last
take_field line at Field.Pattern = take_word line at Field.Pattern
take_field line at Field.Table = take_word line at Field.Table
take_field line at Field.Kind = take_word line at Field.Kind
take_field line at Field.Board = take_word line at Field.Board
take_field line at (Field.Bytes most) = take_word line at (Field.Bytes most)
take_field line at Field.Any = take_word line at Field.Any

-- ---- the whole line

-- what comes of what is taken, if it fits
abbrev pub on_taken : Option Taken → (Taken → Option Line) → Option Line
on_taken t f = option_and_then f t

-- an operation of a board with its fields from `at` on: they fit, and no word is left
unfoldable pub with_fields : Horizon → List ℕ → Operation → ℕ → Option Line
with_fields on line of at =
    let f = fields_of on of in
    on_taken (take_field line at f.0) (λ a.
    on_taken (take_field line a.at f.1) (λ b.
    on_taken (take_field line b.at f.2) (λ c.
    on_taken (take_field line c.at f.3) (λ d.
    cond (ltb (length line) d.at) (Some (record { operation = of; a = a.value; b = b.value; c = c.value; d = d.value })) None))))

-- an operation without fields
abbrev pub bare : Operation → Line
bare of = record { operation = of; a = 0; b = 0; c = 0; d = 0 }

-- an empty line, or one that begins with `#`
unfoldable pub passed_over : List ℕ → Bool
passed_over [] = true
passed_over (x ∷ xs) = eqb x 35

-- what a line without its LF asks for on a board; `begun` where its `lend` was there
unfoldable pub line_of : Horizon → Bool → List ℕ → Option Line
line_of on begun line =
    let w = word_from line 0 in
    cond (passed_over line) (Some (bare Operation.PassedOver)) (option_and_then (λ of. with_fields on line of (w.end + 1)) (allowed begun (text_of line w)))

-- the same of a line that may lack its LF: without it the line does not fit
unfoldable pub asked : Horizon → Bool → Bool → List ℕ → Option Line
asked on ended begun line = cond ended (line_of on begun line) None
