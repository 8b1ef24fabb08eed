use mathlib.Core.Path.{◌∙◌, ap}
use mathlib.Core.Bool.{true, ◌&&◌}
use Prim.Native.Nat.{◌-◌}
use lib.Dec.{eqb}
use lib.ListN.{take, drop}
use Rattle.std.proofs.Common.{rules, tests}
use Rattle.std.proofs.lemmas.Iterator.{YieldsList-from_slice}
use Rattle.std.proofs.lemmas.Iterator.Consumers.{fold_from_yields_List}
use Rattle.std.proofs.lemmas.Slice.{between_is}
use Rattle.rules.specs.Records.{all_zero}
use Rattle.lists.proofs.Tested.{every_fold}
use Rattle.judge.proofs.tables.zero_between.Goals as goal

pub returns : goal.returns
unfolding all_zero
returns c =
    let a = c.args in
    fold_from_yields_List _ (λ t x. t && eqb x 0) true _ c.fold.ensures.ran (YieldsList-from_slice _ c.iter.ensures.rest) (λ t x r q k. search (rules, tests))
    ∙ every_fold (λ x. eqb x 0) (take (a.to - a.from) (drop a.from a.table.now)) ∙ ap all_zero (between_is a.table.now a.from a.to)
