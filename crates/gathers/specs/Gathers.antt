-- The bytes that a line's operation works on, first in a buffer; the cursor is how many they are. Assumes nothing.
use Rattle.std.specs.Prelude.{ℕ, zero, suc, ◌+◌, cond, List, ltb, length, Option, Some, None}
use Rattle.std.specs.Option.{unwrap_or}
use Rattle.print.specs.Page.{Page, page, write}
use Rattle.script.specs.Words.{word_from}
use Rattle.script.specs.Hex.{id_bytes, hex_into}
use Rattle.page.specs.Words.{Text}
use Rattle.page.specs.Page.{most_ids}
use Rattle.lines.specs.Lines.{text_of}
use Rattle.page.specs.declared.page.Operation.{Operation}
use Rattle.lines.specs.declared.lines.Line.{Line}
use Rattle.gathers.specs.declared.gathers.Source.{Source}

-- the bytes of the word at `at`; of a word that is not digits, or has no room, none
unfoldable pub decoded : Text → ℕ → List ℕ → Page
decoded text at buffer = let f = hex_into (text_of text (word_from text at)) buffer in page f.bytes (unwrap_or f.answer 0)

-- the ids from `at` on, n at most, one after the other behind the cursor; one that has no room is not put
unfoldable pub listed : ℕ → Text → ℕ → Page → Page
listed zero text at p = p
listed (suc n) text at p =
    let w = word_from text at in
    cond (ltb (length text) at) p (listed n text (w.end + 1) (write (id_bytes (text_of text w)) p))

-- where the bytes of an operation are, with the values of its line
abbrev pub source_for : Operation → Line → Source
source_for Operation.Byte line = Source.Digits line.c
source_for Operation.Enter line = Source.Digits line.a
source_for Operation.Leave line = Source.Digits line.a
source_for Operation.Read line = Source.Digits line.a
source_for Operation.BlockRaw line = Source.Digits line.b
source_for Operation.Block line = Source.Ids line.b
source_for Operation.Again line = Source.Kept
source_for Operation.Board line = Source.Nowhere
source_for Operation.Lend line = Source.Nowhere
source_for Operation.Count line = Source.Nowhere
source_for Operation.State line = Source.Nowhere
source_for Operation.Start line = Source.Nowhere
source_for Operation.Estimate line = Source.Nowhere
source_for Operation.Estimates line = Source.Nowhere
source_for Operation.Bucket line = Source.Nowhere
source_for Operation.Write line = Source.Nowhere
source_for Operation.Sum line = Source.Nowhere
source_for Operation.PassedOver line = Source.Nowhere

-- where the bytes of a line are; one that does not fit has none
abbrev pub source_of : Option Line → Source
source_of None = Source.Nowhere
source_of (Some line) = source_for line.operation line

-- the bytes of a source
abbrev pub gathered_from : Source → Text → List ℕ → List ℕ → Page
gathered_from Source.Nowhere text kept buffer = page buffer 0
gathered_from (Source.Digits at) text kept buffer = decoded text at buffer
gathered_from (Source.Ids at) text kept buffer = listed most_ids text at (page buffer 0)
gathered_from Source.Kept text kept buffer = write kept (page buffer 0)

-- the bytes of a line's digits or ids, or for `again` those that are kept
unfoldable pub gathered : Option Line → Text → List ℕ → List ℕ → Page
gathered line text kept buffer = gathered_from (source_of line) text kept buffer
