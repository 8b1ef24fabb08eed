use mathlib.Core.Path.{◌≡◌, refl, ◌∙◌}
use mathlib.Core.Bool.{true, false}
use native.Mathlib.Omega.{arith}
use Rattle.std.specs.List.{range_with_len}
use Rattle.std.proofs.Common.{rules, tests}
use Rattle.std.proofs.lemmas.Iterator.{YieldsList-from_range, cases_from_all}
use Rattle.lists.proofs.Tested.{every_told}
use Rattle.codec.proofs.Rated.{stands, buckets_by_number}
use Rattle.parse.proofs.buckets.buckets_ok.Goals as goal

pub returns : goal.returns
returns c =
    let a = c.args in
    every_told (stands a.s.now a.at) (range_with_len 0 142) _
    (cases_from_all _ _ _ (λ i. stands a.s.now a.at i ≡ true) (λ i. stands a.s.now a.at i ≡ false) c.all.ensures.ran (YieldsList-from_range 0 142 142 refl refl) (λ x q k. search (rules, tests)) (λ x q k. search (rules, tests)))
    ∙ buckets_by_number a.s.now a.at (omega arith)
