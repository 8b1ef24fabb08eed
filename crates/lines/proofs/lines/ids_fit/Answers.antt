use mathlib.Core.Path.{◌≡◌, sym, ap, ◌∙◌}
use Prim.Native.Nat.{ℕ, ◌-◌}
use native.Mathlib.Omega.{arith}
use Rattle.page.specs.Page.{most_ids}
use Rattle.lines.specs.Lines.{ids_from}
use Rattle.lines.proofs.Listed.{last}
use Rattle.lines.proofs.lines.ids_fit.Goals as goal

pub returns : goal.returns
returns c =
    let n : most_ids - c.loop.counter ≡ 0 = omega arith in
    sym (c.loop.invariant ∙ ap (λ (k : ℕ). ids_from k c.args.line.now c.loop.from) n ∙ last c.args.line.now c.loop.from)
