use mathlib.Core.Path.{◌∙◌}
use lib.Dec.{leb}
use Rattle.std.proofs.Common.{rules, tests}
use Rattle.std.proofs.lemmas.List.Sorted.{IsPartitionPoint-from_clause}
use Rattle.ladder.specs.declared.TheConstants.{RATES}
use Rattle.ladder.proofs.Closing.{parted, found}
use Rattle.ladder.proofs.last_not_above.Goals as goal

pub returns : goal.returns
returns c =
    let x = c.args.r.0 in
    let p = IsPartitionPoint-from_clause (λ r. leb r x) RATES _ c.partition_point.ensures.partitioned (parted x) (λ a r f k. search (rules, tests)) in
    c.saturating_sub.ensures ∙ found x _ c.partition_point.ensures.bound p
