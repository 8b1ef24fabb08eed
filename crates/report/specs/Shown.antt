-- What `show` and `inspect` print of a history file, in document 01's words: one definition, over how much a program takes in, the chain's height and the board whose file it
-- is. A line is told in pieces. Assumes nothing.
use Rattle.std.specs.Prelude.{ℕ, zero, suc, ◌*◌, cond, List, [], ◌∷◌, ◌++◌, ltb, eqb, length, take, drop, replicate, Option, None, Some}
use Rattle.std.proofs.lemmas.List.Edits.{sets}
use Rattle.kinds.specs.declared.Height.{Height}
use Rattle.kinds.specs.declared.Horizon.{Horizon}
use Rattle.kinds.specs.Last.{Last}
use Rattle.kinds.specs.declared.State.{State}
use Rattle.kinds.specs.Answers.{Answer}
use Rattle.rules.specs.Ids.{same}
use Rattle.rules.specs.Counts.{columns, places_of_counts, nought}
use Rattle.rules.specs.Bytes.{bytes}
use Rattle.rules.specs.Records.{joined}
use Rattle.rules.specs.Board.{board_of, pending_size, confirmed_size}
use Rattle.rules.specs.Estimate.{estimate}
use Rattle.rules.specs.Memory.{Lent, lent}
use Rattle.rules.specs.Calls.{Outcome}
use Rattle.format.specs.File.{version_3, version_of}
use Rattle.format.specs.Calls.{read_call}
use Rattle.print.specs.Page.{Page, page}
use Rattle.print.specs.Numerals.{decimal}
use Rattle.premise.specs.Premise.{premise}
use Rattle.print.specs.Text.{Text}
use Rattle.report.specs.Words.{height, pending, confirmed, refused, space, dash, end, damaged, bad_magic, unknown_version, corrupt, no_room, too_long}

-- a word and what is told of it, on a line
unfoldable pub line : Text → Text → List Text
line word text = word ∷ text ∷ end ∷ []

-- the last height or `-`
unfoldable pub last_text : Last → Text
last_text None = dash
last_text (Some h) = decimal h.0

-- `height H`, `pending N`, `confirmed N`: the last height or `-`, used numbers
unfoldable pub state_lines : State → List Text
state_lines s = line height (last_text s.last) ++ line pending (decimal s.pending) ++ line confirmed (decimal s.recent)

-- a rate or `-`
unfoldable pub rate_text : Option ℕ → Text
rate_text None = dash
rate_text (Some r) = decimal r

-- a target and its rate, on a line
unfoldable pub target_line : (ℕ → Text) → ℕ → List Text
target_line rate t = decimal t ∷ space ∷ rate t ∷ end ∷ []

-- each of n columns from column c on: its target, width * c blocks, and the rate or `-`
unfoldable pub target_lines : ℕ → (ℕ → Text) → ℕ → ℕ → List Text
target_lines width rate c zero = []
target_lines width rate c (suc n) = target_line rate (width * c) ++ target_lines width rate (suc c) n

-- the name of an answer that a reading is refused with
unfoldable pub name : ℕ → Text
name n = cond (eqb n 1) damaged (cond (eqb n 8) bad_magic (cond (eqb n 9) unknown_version (cond (eqb n 10) corrupt (cond (eqb n 11) no_room []))))

-- the numbers that it carries, each behind a space
unfoldable pub carried : List ℕ → List Text
carried [] = []
carried (n ∷ ns) = space ∷ decimal n ∷ carried ns

-- A refused file prints one line, `refused` and the name (and version number).
unfoldable pub refusal : Answer → List Text
refusal a = refused ∷ name a.number ∷ (carried a.carries ++ (end ∷ []))

-- what is told of a reading: its answer, its state, and the rate of each column's target; before all else, whether the file goes with the chain
unfoldable pub told : Option Height → Horizon → Answer → State → (ℕ → Text) → List Text
told chain on a s rate = cond (eqb a.number 0) (premise chain s.last ++ (state_lines s ++ target_lines (board_of on).width rate 1 columns)) (refusal a)

-- what is told of a file, once it is read
unfoldable pub told_of : Option Height → Horizon → Outcome Lent → List Text
told_of chain on o = told chain on o.answer o.state (λ t. rate_text (estimate (board_of on) t o.lent.confirmed o.lent.resolved))

-- how much a program takes in: so many pending and confirmed records, and so many bytes
pub record Reach : Type 0 where
  pub pending : ℕ
  pub recent : ℕ
  pub longest : ℕ

-- these three
abbrev pub reach : ℕ → ℕ → ℕ → Reach
reach pending recent longest = record { pending = pending; recent = recent; longest = longest }

-- `show`: at most 65,536 bytes, with room for 172 pending and 210 confirmed records
abbrev pub of_show : Reach
of_show = reach 172 210 65536

-- `inspect`: room for 10,000 pending and 75,000 confirmed records, and the bytes of a version-3 file that has a height and so many
abbrev pub of_inspect : Reach
of_inspect = reach 10000 75000 3197969

-- room for so many records
unfoldable pub room : Reach → Lent
room r =
    lent (replicate places_of_counts nought) (replicate places_of_counts nought) (replicate (r.pending * pending_size) 0) (replicate (r.recent * confirmed_size) 0)

-- The board that a file names in its bytes 8 to 11, the version's: the wide one where they are the number 3, else the base board.
unfoldable pub named_by : List ℕ → Horizon
named_by file = cond (same (take 4 (drop 8 file)) (bytes 4 version_3.number)) Horizon.Wide Horizon.Base

-- A longer input prints `refused TooLong`; any other, what its reading as a file of that board tells.
unfoldable pub pieces : Reach → Option Height → Horizon → List ℕ → List Text
pieces r chain on file = cond (ltb r.longest (length file)) (line refused too_long) (told_of chain on (read_call (version_of on) (board_of on) (room r) file))

-- everything that is printed of a file: `show` is at the base board, `inspect` at the board that the file names
unfoldable pub shown : Reach → Option Height → Horizon → List ℕ → Text
shown r chain on file = joined (pieces r chain on file)

-- a page that has that text at its start
abbrev pub printed : Text → Text → Page
printed text bytes = page (sets bytes 0 text) (length text)
