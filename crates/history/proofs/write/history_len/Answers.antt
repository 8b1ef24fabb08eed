-- `history::write::history_len` meets its contract: the sum of the parts' lengths. Assumes nothing.
use mathlib.Core.Path.{◌≡◌, ap, ◌∙◌}
use Prim.Native.Nat.{ℕ, ◌*◌}
use native.Mathlib.Nat.{mul_comm}
use native.Mathlib.Omega.{arith}
use Rattle.format.specs.File.{version_told, history_length}
use Rattle.history.proofs.write.history_len.Goals as goal

pub returns : goal.returns
unfolding history_length
returns c =
    let v = version_told c.args.version in
    let e : c.args.s.pending * c.record_size.result ≡ v.records.size * c.args.s.pending = mul_comm c.args.s.pending c.record_size.result ∙ ap (λ (n : ℕ). n * c.args.s.pending) c.record_size.ensures.value in
    omega (arith, e, c.header_len.ensures.value)
