-- `counts::count::count_confirmation` meets its contract. Assumes nothing.
use mathlib.Core.Path.{ap, ◌∙◌}
use native.Mathlib.Omega.{arith}
use mathlib.Core.List.{List}
use lib.Dec.{leb, ltb}
use lib.Ieee.{Float}
use Rattle.rules.specs.Counts.{gain}
use Rattle.lists.specs.Part.{part_put}
use Rattle.counts.proofs.Gain.{gain_part}
use Rattle.counts.proofs.count.count_confirmation.Goals as goal

pub returns : goal.returns
returns c = (
  c.bucket_in.ensures.0 ∙ ap (λ (r : List Float). part_put 25 c.args.b r c.args.confirmed.now) (c.record_confirmation.ensures.0 ∙ ap (gain 0 (λ k. leb c.args.first k)) c.bucket_out-x.ensures.0) ∙ gain_part c.args.b (λ k. leb c.args.first k) c.args.confirmed.now (omega arith),
  c.bucket_in.ensures.1 ∙ ap (λ (r : List Float). part_put 25 c.args.b r c.args.resolved.now) (c.record_confirmation.ensures.1 ∙ ap (gain 0 (λ k. ltb c.args.through k)) c.bucket_out-x.ensures.1) ∙ gain_part c.args.b (λ k. ltb c.args.through k) c.args.resolved.now (omega arith),
)
