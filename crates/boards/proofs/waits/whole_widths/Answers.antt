-- `boards::waits::whole_widths` meets its contract: divided by one a number stays. Assumes nothing.
use mathlib.Core.Path.{◌≡◌, sym, ap, ◌∙◌}
use Prim.Native.Nat.{ℕ, ◌/◌}
use native.Mathlib.Omega.{arith}
use Rattle.boards.proofs.waits.whole_widths.Goals as goal

by_one : (n : ℕ) → n / 1 ≡ n
by_one n = omega arith

pub returns-then-width-eq1 : goal.returns-then-width-eq1
returns-then-width-eq1 c = sym (ap (λ (w : ℕ). c.args.wait / w) c.if-width-eq1.true ∙ by_one c.args.wait)
