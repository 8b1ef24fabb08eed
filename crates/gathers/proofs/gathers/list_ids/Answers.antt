use mathlib.Core.Path.{◌≡◌, sym, ap, ◌∙◌}
use Prim.Native.Nat.{ℕ, ◌-◌}
use native.Mathlib.Omega.{arith}
use Rattle.print.specs.Page.{page}
use Rattle.page.specs.Page.{most_ids}
use Rattle.gathers.specs.Gathers.{listed}
use Rattle.gathers.proofs.Gathering.{enough}
use Rattle.gathers.proofs.gathers.list_ids.Goals as goal

pub returns-after-loop : goal.returns-after-loop
returns-after-loop c =
    let p = page c.loop.buffer c.loop.k in
    let n : most_ids - c.loop.counter ≡ 0 = omega arith in
    sym (c.loop.invariant.whole ∙ ap (λ (m : ℕ). listed m c.args.text.now c.loop.from p) n ∙ enough c.args.text.now c.loop.from p)
