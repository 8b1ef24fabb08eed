-- What the answer of the reading says of the header. Assumes nothing.
use Rattle.std.specs.Prelude.{Result, Ok, Err}
use Rattle.kinds.specs.declared.refusals.ReadError.{ReadError}
use Rattle.kinds.specs.Last.{Last}
use Rattle.kinds.specs.Answers.{read_refusal}
use Rattle.format.specs.Parts.{Parsed, bad, good}

-- the last height, or why the header is refused
abbrev pub header_says : Result Last ReadError → Parsed Last
header_says (Ok last) = good last
header_says (Err why) = bad (read_refusal why)
