-- `decay::decay_bucket` meets its contract, by either way. Assumes nothing.
use mathlib.Core.Path.{ap, ◌∙◌}
use mathlib.Core.List.{map}
use Rattle.rules.specs.Counts.{Counts}
use Rattle.lists.specs.Part.{part_put}
use Rattle.decay.specs.Decay.{often}
use Rattle.decay.proofs.decay_bucket.Goals as goal

pub returns-then-both_in_use : goal.returns-then-both_in_use
returns-then-both_in_use c = record { confirmed_after = c.bucket_in.ensures.0 ∙ ap (λ (r : Counts). part_put 25 c.args.b r c.args.confirmed.now) (c.decayed.ensures.0 ∙ ap (map (often c.args.times c.args.factor)) c.bucket_out-x.ensures.0); resolved_after = c.bucket_in.ensures.1 ∙ ap (λ (r : Counts). part_put 25 c.args.b r c.args.resolved.now) (c.decayed.ensures.1 ∙ ap (map (often c.args.times c.args.factor)) c.bucket_out-x.ensures.1) }
