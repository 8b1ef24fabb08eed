-- `scan::add_bucket` meets its contract. Assumes nothing.
use mathlib.Core.Path.{sym, ◌∙◌}
use Rattle.scan.proofs.Scanning.{shown_passing, shown_failing}
use Rattle.scan.proofs.add_bucket.Goals as goal

pub returns-then-sums_pass-clause-sums : goal.returns-then-sums_pass-clause-sums
returns-then-sums_pass-clause-sums c =
    shown_passing c.args.b c.args.confirmed c.args.resolved c.args.s (sym c.sums_pass.ensures ∙ c.if-sums_pass.true)

pub returns-clause-sums : goal.returns-clause-sums
returns-clause-sums c =
    shown_failing c.args.b c.args.confirmed c.args.resolved c.args.s (sym c.sums_pass.ensures ∙ c.if-sums_pass.false)
