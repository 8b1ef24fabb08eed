-- `history::read::from_history_bytes` meets its contract: the lengths of the count slices first, then what the check says of the file. Assumes nothing.
use mathlib.Core.Path.{ap, ◌∙◌}
use native.Mathlib.Omega.{arith}
use Rattle.kinds.specs.Answers.{read_refusal}
use Rattle.rules.specs.Board.{board_of}
use Rattle.rules.specs.Memory.{Lent, lent}
use Rattle.format.specs.File.{version_told}
use Rattle.format.specs.Calls.{taken_in}
use Rattle.history.proofs.Answered.{answers_why, few_confirmed, few_resolved, as_taken, file_refused}
use Rattle.history.proofs.read.from_history_bytes.Goals as goal
use Rattle.history.proofs.read.from_history_bytes.Goals.{Start}

abbrev given : Start → Lent
given s = lent s.args.confirmed.now s.args.resolved.now s.args.pending.now s.args.recent.now

pub returns-then-confirmed-lt-COUNTS : goal.returns-then-confirmed-lt-COUNTS
returns-then-confirmed-lt-COUNTS c =
    few_confirmed (version_told c.args.version) (board_of c.args.on) (given (goal.at.returns-then-confirmed-lt-COUNTS c).Start) c.args.bytes.now (omega arith)

pub returns-then-resolved-lt-COUNTS : goal.returns-then-resolved-lt-COUNTS
returns-then-resolved-lt-COUNTS c =
    few_resolved (version_told c.args.version) (board_of c.args.on) (given (goal.at.returns-then-resolved-lt-COUNTS c).Start) c.args.bytes.now (omega arith) (omega arith)

pub returns-in_err-read : goal.returns-in_err-read
returns-in_err-read c =
    let l = given (goal.at.returns-in_err-read c).Start in
    answers_why c.from_residual.result l c.in_err-read.field-0.0 c.from_residual.ensures.1
    ∙ file_refused (version_told c.args.version) (board_of c.args.on) l c.args.bytes.now (omega arith) (omega arith) (read_refusal c.in_err-read.field-0.0) c.in_err-read.ensures

pub returns : goal.returns
returns c =
    let l = given (goal.at.returns c).Start in
    c.take_in.ensures
    ∙ ap (taken_in (board_of c.args.on) l) c.in_ok-read.ensures
    ∙ as_taken (version_told c.args.version) (board_of c.args.on) l c.args.bytes.now (omega arith) (omega arith)
