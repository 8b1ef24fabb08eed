use mathlib.Core.Path.{◌≡◌, refl, ◌∙◌}
use mathlib.Core.Bool.{Bool, true, false}
use mathlib.Core.List.{[]}
use Prim.Native.Nat.{ℕ}
use native.Mathlib.Omega.{arith}
use lib.ListN.{get_or}
use Rattle.std.specs.List.{range_with_len}
use Rattle.std.proofs.Common.{rules, tests}
use Rattle.std.proofs.lemmas.Iterator.{YieldsList-from_range, cases_from_all}
use Rattle.rules.specs.Board.{in_range, pending_of}
use Rattle.rules.specs.Records.{records}
use Rattle.lists.proofs.Tested.{every_told}
use Rattle.judge.proofs.Records.{fine_by_number}
use Rattle.judge.proofs.tables.in_range.Goals as goal

pub returns : goal.returns
returns c =
    let a = c.args in
    let f : ℕ → Bool = λ i. in_range (pending_of (get_or (records a.size a.used a.table.now) i [])) in
    every_told f (range_with_len 0 a.used) _
    (cases_from_all _ _ _ (λ i. f i ≡ true) (λ i. f i ≡ false) c.all.ensures.ran (YieldsList-from_range 0 a.used a.used refl (omega arith)) (λ x q k. search (rules, tests)) (λ x q k. search (rules, tests)))
    ∙ fine_by_number a.size a.used a.table.now
