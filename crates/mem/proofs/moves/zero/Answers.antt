use native.Mathlib.Omega.{arith}
use Rattle.mem.proofs.Moved.{put_zeros}
use Rattle.mem.proofs.moves.zero.Goals as goal

pub returns : goal.returns
returns c = put_zeros _ _ _ _ (omega arith) (omega arith) (c.fill.ensures.after (λ y h. h))
