-- What is taken from a line, word by word.
-- Assumes nothing.
use mathlib.Core.Path.{◌≡◌, refl, ap}
use mathlib.Core.Bool.{Bool, true}
use mathlib.Core.List.{List, [], ◌∷◌}
use Prim.Native.Nat.{ℕ, ◌+◌}
use native.Mathlib.Nat.{suc-ne-zero}
use borrow.Author.Tests.{ne_eqb}
use lib.Dec.{eqb}
use lib.ListN.{length, get_or}
use Rattle.std.specs.Prelude.{Option}
use Rattle.std.specs.Option.{option_and_then}
use Rattle.std.specs.declared.ops.Range.{Range}
use Rattle.kinds.specs.declared.Horizon.{Horizon}
use Rattle.script.specs.Words.{word_from}
use Rattle.page.specs.Page.{allowed}
use Rattle.page.specs.declared.page.Operation.{Operation}
use Rattle.page.specs.declared.page.Field.{Field}
use Rattle.lines.specs.Lines.{value_of, text_of, taken, take_word, take_field, with_fields, passed_over, line_of}

-- ---- one field

-- each field but for none and for ids is one word
worded : (line : List ℕ) (at : ℕ) (f : Field) → (f ≡ Field.Nothing → ⊥) → (f ≡ Field.Ids → ⊥) → take_field line at f ≡ take_word line at f
unfolding take_field
worded line at Field.Nothing h k = absurd (h refl)
worded line at (Field.Number most) h k = refl
worded line at Field.Last h k = refl
worded line at Field.Pattern h k = refl
worded line at Field.Table h k = refl
worded line at Field.Kind h k = refl
worded line at Field.Board h k = refl
worded line at (Field.Bytes most) h k = refl
worded line at Field.Any h k = refl
worded line at Field.Ids h k = absurd (k refl)

-- what a word says is what is taken for its field
pub by_word : (line : List ℕ) (at : ℕ) (f : Field) (w : Range ℕ) (v : Option ℕ) → (f ≡ Field.Nothing → ⊥) → (f ≡ Field.Ids → ⊥) → w ≡ word_from line at → v ≡ value_of f w.start (text_of line w)
    → taken (w.end + 1) v ≡ take_field line at f
unfolding take_word
by_word line at f w v h k e n = rw (worded line at f h k, ← e) (ap (taken (w.end + 1)) n)

-- ---- the whole line

-- a line without bytes is passed over
pub nothing : (l : List ℕ) → length l ≡ 0 → passed_over l ≡ true
unfolding passed_over
nothing [] e = refl
nothing (x ∷ l) e = absurd (suc-ne-zero _ e)

-- any other by its first byte
pub something : (l : List ℕ) → (length l ≡ 0 → ⊥) → passed_over l ≡ eqb (get_or l 0 0) 35
unfolding passed_over
something [] h = absurd (h refl)
something (x ∷ l) h = refl

-- a line that is not passed over
pub asks_of : (on : Horizon) (begun : Bool) (line : List ℕ) (w : Range ℕ) (of : Option Operation) → (length line ≡ 0 → ⊥) → (get_or line 0 0 ≡ 35 → ⊥) → w ≡ word_from line 0
    → of ≡ allowed begun (text_of line w) → option_and_then (λ o. with_fields on line o (w.end + 1)) of ≡ line_of on begun line
unfolding line_of
asks_of on begun line w of h n e k = rw (something line h, ne_eqb (get_or line 0 0) 35 n, ← e, ← k)
