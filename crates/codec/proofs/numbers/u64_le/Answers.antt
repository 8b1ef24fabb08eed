use mathlib.Core.Path.{◌≡◌, ap, ◌∙◌}
use Prim.Native.Nat.{ℕ, ◌+◌, ◌-◌}
use native.Mathlib.Omega.{arith}
use lib.ListN.{take, drop}
use Rattle.std.specs.Int.{w64, from_le_bytes}
use Rattle.codec.proofs.Eight.{number_at}
use Rattle.codec.proofs.numbers.u64_le.Goals as goal

pub returns : goal.returns
returns c =
    let a = c.args in
    let n : a.at + 8 - a.at ≡ 8 = omega arith in
    number_at a.s.now a.at _ (omega arith) (λ k. omega (arith, c.type_inv.s k)) (omega arith)
    (c.from_le_bytes.ensures ∙ ap (from_le_bytes w64) c.copy_from_slice.ensures.after ∙ ap (λ (k : ℕ). from_le_bytes w64 (take k (drop a.at a.s.now))) n)
