-- `codec::buckets::load_bucket` meets its contract: both rows' doubles are put back as those of bucket `i`. Assumes nothing.
use mathlib.Core.Path.{◌∙◌}
use native.Mathlib.Omega.{arith}
use Rattle.codec.specs.Places.{confirmed_row, resolved_row}
use Rattle.codec.proofs.Loaded.{row_stored}
use Rattle.codec.proofs.buckets.load_bucket.Goals as goal

pub returns : goal.returns
returns c = (
  c.bucket_in.ensures.0 ∙ row_stored c.args.confirmed.now c.args.i c.args.s.now confirmed_row (omega arith) (omega arith) c.row_counts.ensures,
  c.bucket_in.ensures.1 ∙ row_stored c.args.resolved.now c.args.i c.args.s.now resolved_row (omega arith) (omega arith) c.row_counts-2.ensures,
)
