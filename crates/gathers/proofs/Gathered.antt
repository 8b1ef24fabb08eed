-- Lines of the page with the bytes that they put into a buffer, computed.
-- Assumes nothing.
use Prim.Native.Nat.{ℕ}
use Prim.Native.String.{String}
use mathlib.Core.Path.{◌≡◌, refl}
use mathlib.Core.Bool.{true}
use mathlib.Core.List.{List, [], ◌∷◌, ◌++◌, map}
use lib.ListN.{replicate}
use Rattle.kinds.specs.declared.Horizon.{Horizon}
use Rattle.rules.specs.Ids.{same}
use Rattle.rules.specs.Lists.{every}
use Rattle.print.specs.Page.{Page, page, write}
use Rattle.script.specs.Words.{index_of, word_from}
use Rattle.script.specs.Digits.{digit, value_after, number_after, number_of}
use Rattle.script.specs.Hex.{is_hex, hex_bytes, hex_into, is_id, id_bytes}
use Rattle.page.specs.Page.{found, operation_of, allowed}
use Rattle.lines.specs.Lines.{one_of, any_of, ids_from, take_word, take_ids, take_field, with_fields, passed_over, line_of}
use Rattle.gathers.specs.Gathers.{decoded, listed, gathered}
use Rattle.lines.proofs.Examples.{codes}

-- a line, the bytes that are kept, a buffer, and what it holds then
pub record Example : Type 0 where
  pub line : String
  pub kept : List ℕ
  pub buffer : List ℕ
  pub holds : Page

-- n bytes that are not zero
abbrev old : ℕ → List ℕ
old n = replicate n 7

-- n zeros
abbrev zeros : ℕ → List ℕ
zeros n = replicate n 0

-- a line with two kept bytes, what it leaves in n old ones, and how many it puts
abbrev leaves : String → ℕ → List ℕ → ℕ → Example
leaves line n bytes at = record { line = line; kept = 1 ∷ 2 ∷ []; buffer = old n; holds = page bytes at }

-- digits, ids, and kept bytes, each with and without room
unfoldable pub examples : List Example
examples =
    leaves "byte pending 5 0aff" 3 (10 ∷ 255 ∷ old 1) 2
    ∷ leaves "enter 0aff 5 6" 3 (10 ∷ 255 ∷ old 1) 2
    ∷ leaves "leave 0aff" 2 (10 ∷ 255 ∷ []) 2
    ∷ leaves "leave 0aff" 1 (old 1) 0
    ∷ leaves "read 0aff" 3 (10 ∷ 255 ∷ old 1) 2
    ∷ leaves "read -" 3 (old 3) 0
    ∷ leaves "blockraw 1 0aff" 3 (10 ∷ 255 ∷ old 1) 2
    ∷ leaves "block 1 aa bbcc" 70 ((170 ∷ zeros 31) ++ (187 ∷ 204 ∷ zeros 30) ++ old 6) 64
    ∷ leaves "block 1 aa bbcc" 63 ((170 ∷ zeros 31) ++ old 31) 32
    ∷ leaves "block 1" 40 (old 40) 0
    ∷ leaves "again" 3 (1 ∷ 2 ∷ old 1) 2
    ∷ leaves "again" 1 (old 1) 0
    ∷ leaves "estimate 1" 3 (old 3) 0
    ∷ leaves "leave 0af" 3 (old 3) 0
    ∷ leaves "board wide" 3 (old 3) 0
    ∷ []

-- all of them hold
pub all_hold : map (λ e. gathered (line_of Horizon.Base true (codes e.line)) (codes e.line) e.kept e.buffer) examples ≡ map (λ e. e.holds) examples
unfolding index_of same every write word_from digit value_after number_after number_of is_hex hex_bytes hex_into is_id id_bytes found operation_of allowed one_of any_of ids_from take_word take_ids take_field with_fields passed_over line_of decoded listed gathered codes examples
all_hold = refl

-- so many ids and no more
pub counted : listed 1 (codes "aa bb") 0 (page (old 64) 0) ≡ page ((170 ∷ zeros 31) ++ old 32) 32
unfolding index_of every write word_from digit is_hex hex_bytes is_id id_bytes listed codes
counted = refl
