-- `decay::decay_rows` meets its contract: a row that is not stored is empty, and stands as it would be stored. Assumes nothing.
use mathlib.Core.Path.{sym, ap, ◌∙◌}
use mathlib.Core.List.{map}
use Prim.Native.Nat.{◌+◌, ◌*◌, ◌≤◌}
use native.Mathlib.Omega.{arith}
use lib.ListN.{length}
use borrow.Author.Rules.{rules}
use Rattle.rules.proofs.Records.{and_left, and_right}
use Rattle.decay.specs.Decay.{often}
use Rattle.decay.proofs.Skipped.{skipped, stored}
use Rattle.decay.proofs.decay_rows.Goals as goal
use Rattle.decay.proofs.decay_rows.Goals.{Start}

-- the row lies within either slice
within : (s : Start) → (s.args.b * 25 + 25 ≤ length s.args.confirmed.now) × (s.args.b * 25 + 25 ≤ length s.args.resolved.now)
within s = (omega arith, omega arith)

pub returns-then-no_confirmed-no_resolved : goal.returns-then-no_confirmed-no_resolved
returns-then-no_confirmed-no_resolved c = record { confirmed_after = skipped c.args.b c.args.confirmed.now (within (goal.at.returns-then-no_confirmed-no_resolved c).Start).0 c.args.times c.requires.factor (search rules) (sym c.row_is_empty-no_confirmed.ensures ∙ and_left c.row_is_empty-no_confirmed.result c.row_is_empty-no_resolved.result c.if-no_confirmed-no_resolved.true); resolved_after = skipped c.args.b c.args.resolved.now (within (goal.at.returns-then-no_confirmed-no_resolved c).Start).1 c.args.times c.requires.factor (search rules) (sym c.row_is_empty-no_resolved.ensures ∙ and_right c.row_is_empty-no_confirmed.result c.row_is_empty-no_resolved.result c.if-no_confirmed-no_resolved.true) }

pub returns : goal.returns
returns c = record {
  confirmed_after = stored c.args.b c.args.confirmed.now (within (goal.at.returns c).Start).0 c.args.times c.requires.factor (search rules) _ _ _
      c.row_is_empty-no_confirmed.ensures (c.decayed-y.ensures.0 ∙ ap (map (often c.args.times c.args.factor)) c.bucket_out.ensures.0) c.put_back.ensures;
  resolved_after = stored c.args.b c.args.resolved.now (within (goal.at.returns c).Start).1 c.args.times c.requires.factor (search rules) _ _ _
      c.row_is_empty-no_resolved.ensures (c.decayed-y.ensures.1 ∙ ap (map (often c.args.times c.args.factor)) c.bucket_out.ensures.1) c.put_back-2.ensures;
}
