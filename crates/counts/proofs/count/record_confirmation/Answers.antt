-- `counts::count::record_confirmation` meets its contract: of a row's columns none is above the last. Assumes nothing.
use mathlib.Core.Path.{◌≡◌, ap, ◌∙◌}
use Prim.Native.Nat.{ℕ}
use native.Mathlib.Omega.{arith}
use lib.ListN.{length}
use Rattle.rules.specs.Counts.{gain}
use Rattle.counts.proofs.Gain.{between, gain_above, gain_from}
use borrow.Author.Rules.{rules}
use Rattle.counts.proofs.count.record_confirmation.Goals as goal

pub gain_columns-requires : goal.gain_columns-requires
gain_columns-requires c =
    let n : length c.args.x.confirmed ≡ 25 = search rules in
    omega arith

pub gain_columns-requires-2 : goal.gain_columns-requires-2
gain_columns-requires-2 c =
    let n : length c.args.x.resolved ≡ 25 = search rules in
    omega arith

pub returns : goal.returns
returns c = (
  c.gain_columns.ensures ∙ ap (λ (r : ℕ). gain 0 (between r 25) c.args.x.confirmed) c.saturating_sub.ensures ∙ gain_from 0 c.args.first c.args.x.confirmed,
  c.gain_columns-2.ensures ∙ gain_above 0 c.args.through c.args.x.resolved,
)
