use mathlib.Core.Path.{◌∙◌}
use native.Mathlib.Omega.{arith}
use Rattle.rules.proofs.Bytes.{length_bytes}
use Rattle.mem.proofs.Laws.{le_bytes_are}
use Rattle.mem.proofs.Moved.{put_sets}
use Rattle.codec.proofs.numbers.put_u64.Goals as goal

pub returns : goal.returns
returns c = put_sets _ _ _ _ _ (c.copy_from_slice.ensures.after ∙ c.to_le_bytes.ensures ∙ le_bytes_are 7 c.args.v) (omega (arith, length_bytes 8 c.args.v)) (omega arith)
