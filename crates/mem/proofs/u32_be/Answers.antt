use native.Mathlib.Omega.{arith}
use Rattle.mem.proofs.Laws.{be_at_4}
use Rattle.mem.proofs.u32_be.Goals as goal

pub returns : goal.returns
returns c = let a = c.args in omega (arith, be_at_4 a.s.now a.at)
