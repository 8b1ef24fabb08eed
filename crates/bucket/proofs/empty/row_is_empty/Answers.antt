use mathlib.Core.Path.{◌≡◌, ◌∙◌}
use mathlib.Core.Bool.{true, ◌&&◌}
use Prim.Native.Nat.{◌+◌, ◌-◌, ◌*◌}
use native.Mathlib.Omega.{arith}
use lib.ListN.{take, drop}
use Rattle.std.proofs.Common.{rules, tests}
use Rattle.std.proofs.lemmas.Iterator.{YieldsList-from_slice}
use Rattle.std.proofs.lemmas.Iterator.Consumers.{fold_from_yields_List}
use Rattle.rules.specs.Counts.{is_zero, empty_row}
use Rattle.lists.proofs.Tested.{every_fold}
use Rattle.bucket.proofs.Tests.{is_tested}
use Rattle.bucket.proofs.empty.row_is_empty.Goals as goal

pub returns : goal.returns
unfolding empty_row
returns c =
    let a = c.args in
    let n : a.b * 25 + 25 - a.b * 25 ≡ 25 = omega arith in
    fold_from_yields_List _ (λ t x. t && is_zero x) true _ c.fold.ensures.ran (YieldsList-from_slice _ c.iter.ensures.rest) (λ t x r q k. search (rules, tests, is_tested))
    ∙ every_fold is_zero (take (a.b * 25 + 25 - a.b * 25) (drop (a.b * 25) a.counts.now)) ∙ rw n
