-- Lines of the page with what they ask for, computed: each side of its edges.
-- Assumes nothing.
use Prim.Native.Nat.{ℕ}
use Prim.Native.Char.{code}
use Prim.Native.String.{String, [] as end, ◌∷◌ as ◌then◌}
use mathlib.Core.Path.{◌≡◌, refl}
use mathlib.Core.Bool.{Bool, true, false}
use mathlib.Core.List.{List, [], ◌∷◌, map}
use Rattle.std.specs.Prelude.{Option, Some, None}
use Rattle.kinds.specs.declared.Horizon.{Horizon}
use Rattle.rules.specs.Ids.{same}
use Rattle.rules.specs.Lists.{every}
use Rattle.script.specs.Words.{index_of, word_from}
use Rattle.script.specs.Digits.{digit, value_after, number_after, number_of}
use Rattle.script.specs.Hex.{is_hex, is_id, pattern_of}
use Rattle.page.specs.Page.{found, operation_of, allowed}
use Rattle.lines.specs.Lines.{last_of, bits_of, one_of, any_of, ids_from, take_word, take_ids, take_field, bare, with_fields, passed_over, line_of}
use Rattle.page.specs.declared.page.Operation.{Operation}
use Rattle.lines.specs.declared.lines.Line.{Line}

-- a text's ASCII codes
unfoldable pub codes : String → List ℕ
codes end = []
codes (c then s) = code c ∷ codes s

-- a line for a board, whether the board's `lend` was there before it, and what it asks for
pub record Example : Type 0 where
  pub on : Horizon
  pub begun : Bool
  pub line : String
  pub asks : Option Line

-- a line for the narrow board after its `lend`
abbrev after_lend : String → Option Line → Example
after_lend line asks = record { on = Horizon.Base; begun = true; line = line; asks = asks }

-- a line before it
abbrev before_lend : String → Option Line → Example
before_lend line asks = record { on = Horizon.Base; begun = false; line = line; asks = asks }

-- a line for the wide board after its `lend`
abbrev wide_after : String → Option Line → Example
wide_after line asks = record { on = Horizon.Wide; begun = true; line = line; asks = asks }

-- a line before it
abbrev wide_before : String → Option Line → Example
wide_before line asks = record { on = Horizon.Wide; begun = false; line = line; asks = asks }

-- an operation and its values
abbrev asks : Operation → ℕ → ℕ → ℕ → ℕ → Option Line
asks of a b c d = Some (record { operation = of; a = a; b = b; c = c; d = d })

-- no line of the page
abbrev unfit : Option Line
unfit = None

-- a line that asks for nothing
abbrev passed : Option Line
passed = Some (bare Operation.PassedOver)

-- `lend`, and lines before the first one
unfoldable pub lends : List Example
lends =
    before_lend "lend 440100 720100 3600 3600" (asks Operation.Lend 440100 720100 3600 3600)
    ∷ before_lend "lend 440101 720100 3600 3600" unfit
    ∷ before_lend "lend 440100 720101 3600 3600" unfit
    ∷ before_lend "lend 440100 720100 3601 3600" unfit
    ∷ before_lend "lend 440100 720100 3600 3601" unfit
    ∷ after_lend "lend 0 00 000 0007" (asks Operation.Lend 0 0 0 7)
    ∷ after_lend "lend 1 2 3" unfit
    ∷ after_lend "lend 1 2 3 4 5" unfit
    ∷ before_lend "start" unfit
    ∷ before_lend "sum" unfit
    ∷ before_lend "" passed
    ∷ before_lend "#" passed
    ∷ after_lend "# lend 1 2 3 4" passed
    ∷ after_lend " # lend" unfit
    ∷ []

-- `board`, which also stands before a `lend`, and the wide board's own bounds
unfoldable pub boards : List Example
boards =
    before_lend "board narrow" (asks Operation.Board 0 0 0 0)
    ∷ before_lend "board wide" (asks Operation.Board 1 0 0 0)
    ∷ after_lend "board wide" (asks Operation.Board 1 0 0 0)
    ∷ wide_before "board narrow" (asks Operation.Board 0 0 0 0)
    ∷ wide_after "board wide" (asks Operation.Board 1 0 0 0)
    ∷ before_lend "board" unfit
    ∷ after_lend "board base" unfit
    ∷ after_lend "board 1" unfit
    ∷ after_lend "board wide " unfit
    ∷ after_lend "board wide narrow" unfit
    ∷ after_lend "boards" unfit
    ∷ wide_before "lend 44100 72100 3600 3600" (asks Operation.Lend 44100 72100 3600 3600)
    ∷ wide_before "lend 44101 72100 3600 3600" unfit
    ∷ wide_before "lend 44100 72101 3600 3600" unfit
    ∷ wide_after "lend 44100 72100 3601 3600" unfit
    ∷ wide_after "lend 44100 72100 3600 3601" unfit
    ∷ wide_before "estimate 1" unfit
    ∷ wide_before "bucket 1000" unfit
    ∷ wide_before "" passed
    ∷ wide_before "# estimate 1" passed
    ∷ wide_after "estimate 1" (asks Operation.Estimate 1 0 0 0)
    ∷ wide_after "bucket 1000" (asks Operation.Bucket 1000 0 0 0)
    ∷ []

-- lines of no field, and first words that are none
unfoldable pub bares : List Example
bares =
    after_lend "start" (Some (bare Operation.Start))
    ∷ after_lend "estimates" (Some (bare Operation.Estimates))
    ∷ after_lend "again" (Some (bare Operation.Again))
    ∷ after_lend "sum" (Some (bare Operation.Sum))
    ∷ after_lend "start 1" unfit
    ∷ after_lend "start " unfit
    ∷ after_lend "starts" unfit
    ∷ after_lend "Start" unfit
    ∷ []

-- numbers of 32 bits, of 64, and a length
unfoldable pub numbers : List Example
numbers =
    after_lend "estimate 4294967295" (asks Operation.Estimate 4294967295 0 0 0)
    ∷ after_lend "estimate 4294967296" unfit
    ∷ after_lend "estimate  1" unfit
    ∷ after_lend "estimate 1 " unfit
    ∷ after_lend "estimate 1\r" unfit
    ∷ after_lend "estimate\t1" unfit
    ∷ after_lend "estimate +1" unfit
    ∷ after_lend "estimate a" unfit
    ∷ after_lend "estimate" unfit
    ∷ after_lend "bucket 18446744073709551615" (asks Operation.Bucket 18446744073709551615 0 0 0)
    ∷ after_lend "bucket 18446744073709551616" unfit
    ∷ after_lend "write 1400000" (asks Operation.Write 1400000 0 0 0)
    ∷ after_lend "write 1400001" unfit
    ∷ []

-- damage
unfoldable pub damages : List Example
damages =
    after_lend "state - 0 0" (asks Operation.State 0 0 0 0)
    ∷ after_lend "state 0 1 2" (asks Operation.State 1 1 2 0)
    ∷ after_lend "state 4294967295 4294967295 4294967295" (asks Operation.State 4294967296 4294967295 4294967295 0)
    ∷ after_lend "state 4294967296 0 0" unfit
    ∷ after_lend "state 0 - 0" unfit
    ∷ after_lend "count confirmed 0 7ff0000000000000" (asks Operation.Count 0 0 9218868437227405312 0)
    ∷ after_lend "count resolved 3600 nan" (asks Operation.Count 1 3600 9221120237041090560 0)
    ∷ after_lend "count resolved 3601 nan" unfit
    ∷ after_lend "count pending 0 nan" unfit
    ∷ after_lend "count confirmed 0 7ff000000000000" unfit
    ∷ after_lend "count confirmed 0 7ff00000000000000" unfit
    ∷ after_lend "count confirmed 0 7FF0000000000000" unfit
    ∷ after_lend "byte pending 5 00ff" (asks Operation.Byte 0 5 15 0)
    ∷ after_lend "byte confirmed 720100 0a" (asks Operation.Byte 1 720100 22 0)
    ∷ after_lend "byte resolved 0 00" unfit
    ∷ after_lend "byte pending 0 -" unfit
    ∷ []

-- ids and lists
unfoldable pub lists : List Example
lists =
    after_lend "leave 0123456789abcdef0123456789abcdef0123456789abcdef0123456789abcdef" (asks Operation.Leave 6 0 0 0)
    ∷ after_lend "leave 0123456789abcdef0123456789abcdef0123456789abcdef0123456789abcdef00" unfit
    ∷ after_lend "leave ab" (asks Operation.Leave 6 0 0 0)
    ∷ after_lend "leave aB" unfit
    ∷ after_lend "leave abc" unfit
    ∷ after_lend "leave -" unfit
    ∷ after_lend "enter ff 18446744073709551615 4294967295" (asks Operation.Enter 6 18446744073709551615 4294967295 0)
    ∷ after_lend "block 1" (asks Operation.Block 1 8 0 0)
    ∷ after_lend "block 1 aa bbcc" (asks Operation.Block 1 8 0 0)
    ∷ after_lend "block 1 aa b" unfit
    ∷ after_lend "block 1 " unfit
    ∷ after_lend "block 1 aa  bb" unfit
    ∷ after_lend "blockraw 1 -" (asks Operation.BlockRaw 1 11 0 0)
    ∷ after_lend "blockraw 1 aabbcc" (asks Operation.BlockRaw 1 11 0 0)
    ∷ after_lend "blockraw 1" unfit
    ∷ after_lend "read -" (asks Operation.Read 5 0 0 0)
    ∷ after_lend "read - 00" unfit
    ∷ after_lend "read 0" unfit
    ∷ []

-- what the definition gives for each
abbrev given : List Example → List (Option Line)
given es = map (λ e. line_of e.on e.begun (codes e.line)) es

-- what it is to give
abbrev expected : List Example → List (Option Line)
expected es = map (λ e. e.asks) es

-- all of them hold
pub all_hold : (given lends ≡ expected lends) × (given boards ≡ expected boards) × (given bares ≡ expected bares) × (given numbers ≡ expected numbers) × (given damages ≡ expected damages) × (given lists ≡ expected lists)
unfolding index_of same every word_from digit value_after number_after number_of is_hex is_id pattern_of found operation_of allowed last_of bits_of one_of any_of ids_from take_word take_ids take_field with_fields passed_over line_of codes lends boards bares numbers damages lists
all_hold = (refl, refl, refl, refl, refl, refl)

-- so many ids and no more
pub ids_counted : (ids_from 0 (codes "aa") 3 ≡ true) × (ids_from 1 (codes "aa") 0 ≡ true) × (ids_from 1 (codes "aa bb") 0 ≡ false) × (ids_from 2 (codes "aa bb") 0 ≡ true)
unfolding index_of every word_from digit is_hex is_id ids_from codes
ids_counted = (refl, refl, refl, refl)
