-- `estimates::estimate` meets its contract: each of its answers is the definition's, by the laws of `Estimating`. Assumes nothing.
use mathlib.Core.Path.{◌≡◌, sym, ◌∙◌}
use mathlib.Core.Bool.{true}
use native.Mathlib.Omega.{arith}
use Rattle.rules.specs.Board.{board_of}
use Rattle.rules.specs.Memory.{sound_counts}
use Rattle.boards.proofs.Times.{column_within}
use Rattle.estimates.proofs.Estimating.{many, first_damaged, second_damaged, no_target, in_column}
use Rattle.estimates.proofs.estimate.Goals as goal
use Rattle.estimates.proofs.estimate.Goals.{Else-not-sound_counts, Else-not-sound_counts-2}

-- past the first test the confirmed counts are sound, past the second the resolved ones
confirmed_sound : (c : Else-not-sound_counts) → sound_counts c.args.confirmed.now ≡ true
confirmed_sound c = sym c.sound_counts.ensures ∙ c.if-not-sound_counts.false

resolved_sound : (c : Else-not-sound_counts-2) → sound_counts c.args.resolved.now ≡ true
resolved_sound c = sym c.sound_counts-2.ensures ∙ c.if-not-sound_counts-2.false

pub returns-then-not-sound_counts : goal.returns-then-not-sound_counts
returns-then-not-sound_counts c =
    first_damaged (board_of c.args.on) c.args.state c.args.confirmed.now c.args.resolved.now c.args.target (sym c.sound_counts.ensures ∙ c.if-not-sound_counts.true)

pub returns-then-not-sound_counts-2 : goal.returns-then-not-sound_counts-2
returns-then-not-sound_counts-2 c =
    second_damaged (board_of c.args.on) c.args.state c.args.confirmed.now c.args.resolved.now c.args.target (confirmed_sound (goal.at.returns-then-not-sound_counts-2 c).Else-not-sound_counts) (sym c.sound_counts-2.ensures ∙ c.if-not-sound_counts-2.true)

pub returns-then-target-eq0 : goal.returns-then-target-eq0
returns-then-target-eq0 c =
    no_target (board_of c.args.on) c.args.state c.args.confirmed.now c.args.resolved.now c.args.target (confirmed_sound (goal.at.returns-then-target-eq0 c).Else-not-sound_counts) (resolved_sound (goal.at.returns-then-target-eq0 c).Else-not-sound_counts-2) c.if-target-eq0.true

pub rate_in_column-requires : goal.rate_in_column-requires
rate_in_column-requires c =
    let k = column_within c.args.on c.args.target.0 c.if-target-eq0.false in
    (omega (arith, c.column_of.ensures, k), omega (arith, c.column_of.ensures, k), many c.args.confirmed.now (confirmed_sound (goal.at.rate_in_column-requires c).Else-not-sound_counts), many c.args.resolved.now (resolved_sound (goal.at.rate_in_column-requires c).Else-not-sound_counts-2))

pub returns : goal.returns
returns c =
    in_column (board_of c.args.on) c.args.state c.args.confirmed.now c.args.resolved.now c.args.target (confirmed_sound (goal.at.returns c).Else-not-sound_counts) (resolved_sound (goal.at.returns c).Else-not-sound_counts-2) c.if-target-eq0.false
    c.column_of.result c.column_of.ensures c.rate_in_column.result c.rate_in_column.ensures
