use mathlib.Core.Path.{◌≡◌, refl, sym}
use native.Mathlib.Omega.{arith}
use lib.Ieee.{nan}
use Rattle.lists.specs.Upto.{upto}
use Rattle.lists.proofs.Upto as up
use Rattle.lists.proofs.Part.{part_turn}
use Rattle.decay.specs.Decay.{often}
use Rattle.decay.proofs.apply_decay.Goals as goal

pub loop-b-init : goal.loop-b-init
loop-b-init c = (sym (up.none (often c.args.heights.0 c.args.factor) nan c.args.confirmed.now), sym (up.none (often c.args.heights.0 c.args.factor) nan c.args.resolved.now))

pub loop-b-preserved : goal.loop-b-preserved
loop-b-preserved c = (
  part_turn 25 c.loop-b.b c.args.confirmed.now (often c.args.heights.0 c.args.factor) c.loop-b.confirmed _ _ c.decay_bucket.new.confirmed (omega arith) c.loop-b.invariant.0 refl refl c.decay_bucket.ensures.confirmed_after,
  part_turn 25 c.loop-b.b c.args.resolved.now (often c.args.heights.0 c.args.factor) c.loop-b.resolved _ _ c.decay_bucket.new.resolved (omega arith) c.loop-b.invariant.1 refl refl c.decay_bucket.ensures.resolved_after,
)

pub returns : goal.returns
unfolding upto
returns c =
    let e : c.loop-b.b ≡ 142 = omega arith in record { confirmed_after = rw e at c.loop-b.invariant.0; resolved_after = rw e at c.loop-b.invariant.1 }
