-- The promises for the board that a horizon names, whichever it is. Assumes nothing.
use Rattle.kinds.specs.declared.Horizon.{Horizon}
use Rattle.rules.specs.Board.{board_of}
use Rattle.rules.proofs.Boards.{board_lawful}
use Rattle.floats.proofs.Count.{board_factor}
use Rattle.meaning.specs.Fates.{Promise}
use Rattle.meaning.specs.Answered.{AnswerPromise, RunPromise, RestatePromise}
use Rattle.meaning.specs.Success.{WalkPromise, SuccessPromise}
use Rattle.meaning.specs.Floor.{FloorPromise}
use Rattle.meaning.specs.Report.{ReportPromise, BoundPromise}
use Rattle.meaning.proofs.Leading.{comes}
use Rattle.meaning.proofs.Meaning.{promise, restate_promise}
use Rattle.meaning.proofs.Sound.{run_promise}
use Rattle.meaning.proofs.Answered.{answer_promise}
use Rattle.meaning.proofs.Success.{walk, success_promise}
use Rattle.meaning.proofs.Bound.{bound_promise}
use Rattle.meaning.proofs.Reports.{report_promise}

-- demand 3
pub meaning : (on : Horizon) → Promise (board_of on)
meaning on = promise (board_of on) (board_lawful on)

-- and in other words
pub restated : (on : Horizon) → RestatePromise (board_of on)
restated on = restate_promise (board_of on) (board_lawful on)

-- every answer of a run is foretold by the log
pub answers : (on : Horizon) → AnswerPromise (board_of on)
answers on = answer_promise (board_of on) (board_lawful on) (board_factor on)

-- every run holds the estimator of its log, in sound memory
pub runs : (on : Horizon) → RunPromise (board_of on)
runs on = run_promise (board_of on) (board_factor on) (board_lawful on)

-- the sums that success speaks of are the estimate's
pub walks : (on : Horizon) → WalkPromise (board_of on)
walks on = walk (board_of on)

-- success between none and all
pub between_none_and_all : (on : Horizon) → SuccessPromise (board_of on)
between_none_and_all on = success_promise (board_of on) (board_lawful on) (board_factor on)

-- no admission is below the floor
pub floored : (on : Horizon) → FloorPromise (board_of on)
unfolding FloorPromise
floored on m e cs t = (comes (board_of on) (board_lawful on) m e cs t).live.floored

-- what the blocks of a run report
pub reports : (on : Horizon) → ReportPromise (board_of on)
reports on = report_promise (board_of on) (board_lawful on)

-- and how much all reports of a run come to at most
pub bounded : (on : Horizon) → BoundPromise (board_of on)
bounded on = bound_promise (board_of on) (board_lawful on)
