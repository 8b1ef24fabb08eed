use mathlib.Core.Path.{◌∙◌}
use native.Mathlib.Omega.{arith}
use Rattle.rules.proofs.Bytes.{length_bytes}
use Rattle.mem.proofs.Laws.{le_bytes_are}
use Rattle.mem.proofs.Moved.{put_sets}
use Rattle.mem.proofs.put_u32.Goals as goal

pub returns : goal.returns
returns c = put_sets _ _ _ _ _ (c.copy_from_slice.ensures.after ∙ c.to_le_bytes.ensures ∙ le_bytes_are 3 c.args.v) (omega (arith, length_bytes 4 c.args.v)) (omega arith)
