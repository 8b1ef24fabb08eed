-- `script::words::word_at` meets its contract.
-- Assumes nothing.
use mathlib.Core.Path.{refl, ◌∙◌}
use Prim.Native.Nat.{ℕ, ◌-◌}
use native.Mathlib.Omega.{arith}
use lib.ListN.{length, drop, length-drop}
use lib.Seq.{take_all}
use Rattle.script.proofs.Spaces.{word_there}
use Rattle.script.proofs.words.word_at.Goals as goal

pub returns-clause-value : goal.returns-clause-value
returns-clause-value c =
    let rest = take_all (length c.args.line.now - c.min-start.result) (drop c.min-start.result c.args.line.now) (omega (arith, length-drop {A = ℕ})) in
    word_there c.args.line.now c.args.at c.min-start.result c.unwrap_or.result c.min-start.ensures (c.unwrap_or.ensures ∙ rw (c.space_in.ensures, rest) refl)
