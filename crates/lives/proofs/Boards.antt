-- The promises for the board that a horizon names, whichever it is, and its own version of the file. Assumes nothing.
use native.Mathlib.Omega.{arith}
use Rattle.kinds.specs.declared.Horizon.{Horizon}
use Rattle.rules.specs.Board.{board_of}
use Rattle.rules.proofs.Boards.{board_lawful, size_least}
use Rattle.floats.proofs.Count.{board_factor}
use Rattle.format.specs.File.{version_of}
use Rattle.lives.specs.Anew.{CopyPromise}
use Rattle.lives.specs.Lives.{AsidePromise, RefitPromise, LifePromise}
use Rattle.lives.specs.Promises.{CodePromise}
use Rattle.lives.proofs.Anew.{copy_promise}
use Rattle.lives.proofs.Lives.{aside_promise, refit_promise, life_promise}
use Rattle.lives.proofs.Link.{code_promise}

-- a copy is lent anew
pub copies : (on : Horizon) → CopyPromise (board_of on)
copies on = copy_promise (board_of on)

-- what changes nothing
pub asides : (on : Horizon) → AsidePromise (version_of on) (board_of on)
asides on = aside_promise (version_of on) (board_of on)

-- tables may be cut and grow
pub refits : (on : Horizon) → RefitPromise (version_of on) (board_of on)
refits on = refit_promise (version_of on) (board_of on) (board_lawful on) (board_factor on) (omega (arith, size_least on))

-- demand 3 in every life
pub lives : (on : Horizon) → LifePromise (version_of on) (board_of on)
lives on = life_promise (version_of on) (board_of on) (board_lawful on) (board_factor on)

-- and of whatever meets the contracts
pub code : (on : Horizon) → CodePromise (version_of on) (board_of on)
code on = code_promise (version_of on) (board_of on) (board_lawful on) (board_factor on)
