use mathlib.Core.Path.{◌≡◌, refl, ◌∙◌}
use mathlib.Core.Bool.{Bool, true, false}
use Prim.Native.Nat.{ℕ}
use native.Mathlib.Omega.{arith}
use Rattle.std.specs.List.{range_with_len}
use Rattle.std.proofs.Common.{rules, tests}
use Rattle.std.proofs.lemmas.Iterator.{YieldsList-from_range, cases_from_all}
use Rattle.rules.specs.Counts.{sound_count}
use Rattle.lists.proofs.Tested.{every_told}
use Rattle.codec.proofs.Counts.{double, row_by_number}
use Rattle.codec.proofs.rows.row_ok.Goals as goal

pub returns : goal.returns
returns c =
    let f : ℕ → Bool = λ i. sound_count (double c.args.s.now c.args.at i) in
    every_told f (range_with_len 0 25) _
    (cases_from_all _ _ _ (λ i. f i ≡ true) (λ i. f i ≡ false) c.all.ensures.ran (YieldsList-from_range 0 25 25 refl refl) (λ x q k. search (rules, tests)) (λ x q k. search (rules, tests)))
    ∙ row_by_number c.args.s.now c.args.at (omega arith)
