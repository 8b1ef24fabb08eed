-- What a line of a script does to the lent memory itself. Assumes nothing.
use Rattle.std.specs.Prelude.{ℕ, ◌+◌, Bool, true, cond, List, eqb, leb, ltb, length, replicate, set, Float}
use Rattle.std.specs.Float.{binary64}
use Rattle.std.specs.Float.Ieee.{of_bits}
use Rattle.rules.specs.Counts.{nought}
use Rattle.rules.specs.Memory.{Lent, lent}
use Rattle.print.specs.Page.{page, write}
use Rattle.page.specs.declared.page.Operation.{Operation}
use Rattle.lines.specs.declared.lines.Line.{Line}

-- ---- lend

-- as many places, each of which holds v
abbrev pub all : {A : Type 0} → A → List A → List A
all v xs = replicate (length xs) v

-- `lend`: all zero
unfoldable pub cleared : Lent → Lent
cleared l = lent (all nought l.confirmed) (all nought l.resolved) (all 0 l.pending) (all 0 l.recent)

-- ---- byte and count

-- two lists after one of them was changed, and whether the line fits
pub record Laid (A : Type 0) : Type 0 where
  pub fits : Bool
  pub first : A
  pub second : A

-- the three
abbrev pub laid : {A : Type 0} → Bool → A → A → Laid A
laid fits x y = record { fits = fits; first = x; second = y }

-- the list that a line names, the first by 0 and the second by any other number, is changed; the other stays
unfoldable pub in_one : {A : Type 0} → ℕ → (A → Bool) → (A → A) → A → A → Laid A
in_one which fits changed x y = cond (eqb which 0) (laid (fits x) (changed x) y) (laid (fits y) x (changed y))

-- the bytes must fit the table
abbrev pub has_room : ℕ → List ℕ → List ℕ → Bool
has_room at text xs = leb (at + length text) (length xs)

-- the bytes at the place; a table that they do not fit stays
abbrev pub with_bytes : ℕ → List ℕ → List ℕ → List ℕ
with_bytes at text xs = (write text (page xs at)).bytes

-- `byte pending|confirmed AT HEX`: writes the bytes at AT into that table
unfoldable pub byte_lays : Line → List ℕ → List ℕ → List ℕ → Laid (List ℕ)
byte_lays line text pending recent = in_one line.a (has_room line.b text) (with_bytes line.b text) pending recent

-- there must be such a count
abbrev pub has_place : ℕ → List Float → Bool
has_place at xs = ltb at (length xs)

-- the double of these bits at the place; counts without such a place stay
unfoldable pub with_count : ℕ → ℕ → List Float → List Float
with_count at bits xs = cond (has_place at xs) (set xs at (of_bits binary64 bits)) xs

-- `count confirmed|resolved AT PATTERN`: the double at AT becomes the pattern
unfoldable pub count_lays : Line → List Float → List Float → Laid (List Float)
count_lays line confirmed resolved = in_one line.a (has_place line.b) (with_count line.b line.c) confirmed resolved

-- ---- the three

-- whether a line fits the lent memory, and that memory after it
pub record Lain : Type 0 where
  pub fits : Bool
  pub lent : Lent

-- the two
abbrev pub lain : Bool → Lent → Lain
lain fits l = record { fits = fits; lent = l }

-- the page's rows on lent memory itself; any other line fits, and leaves it
unfoldable pub operation_lays : Operation → Line → List ℕ → Lent → Lain
operation_lays Operation.PassedOver line text l = lain true l
operation_lays Operation.Board line text l = lain true l
operation_lays Operation.Lend line text l = lain true (cleared l)
operation_lays Operation.Byte line text l = let t = byte_lays line text l.pending l.recent in lain t.fits (lent l.confirmed l.resolved t.first t.second)
operation_lays Operation.Count line text l = let t = count_lays line l.confirmed l.resolved in lain t.fits (lent t.first t.second l.pending l.recent)
operation_lays Operation.State line text l = lain true l
operation_lays Operation.Start line text l = lain true l
operation_lays Operation.Enter line text l = lain true l
operation_lays Operation.Leave line text l = lain true l
operation_lays Operation.Block line text l = lain true l
operation_lays Operation.BlockRaw line text l = lain true l
operation_lays Operation.Estimate line text l = lain true l
operation_lays Operation.Estimates line text l = lain true l
operation_lays Operation.Bucket line text l = lain true l
operation_lays Operation.Write line text l = lain true l
operation_lays Operation.Read line text l = lain true l
operation_lays Operation.Again line text l = lain true l
operation_lays Operation.Sum line text l = lain true l

-- what a line with these bytes does to it
abbrev pub line_lays : Line → List ℕ → Lent → Lain
line_lays line text l = operation_lays line.operation line text l
