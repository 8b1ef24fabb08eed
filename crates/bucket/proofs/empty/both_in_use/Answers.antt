-- `bucket::empty::both_in_use` meets its contract. Assumes nothing.
use mathlib.Core.Path.{ap₂}
use mathlib.Core.Bool.{Bool, ◌&&◌}
use native.Mathlib.Omega.{arith}
use Rattle.bucket.proofs.Tests.{last_tested}
use Rattle.bucket.proofs.empty.both_in_use.Goals as goal

pub returns : goal.returns
returns c =
    ap₂ (λ (x y : Bool). x && y) (last_tested c.args.b c.args.confirmed.now (omega arith)) (last_tested c.args.b c.args.resolved.now (omega arith))
