use native.Mathlib.Omega.{arith}
use Rattle.mem.proofs.Moved.{put_sets}
use Rattle.mem.proofs.moves.put_bytes.Goals as goal

pub returns : goal.returns
returns c = put_sets _ _ _ _ _ c.copy_from_slice.ensures.after (omega arith) (omega arith)
