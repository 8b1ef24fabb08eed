-- `codec::numbers::put_records` meets its contract: the number and the part of the table are two puts, one after the other. Assumes nothing.
use mathlib.Core.Path.{◌≡◌, sym, ap, ◌∙◌}
use mathlib.Core.List.{List}
use Prim.Native.Nat.{ℕ, ◌+◌, ◌*◌}
use native.Mathlib.Omega.{arith}
use lib.ListN.{length, take}
use lib.Seq.{sets, length-take-le}
use Rattle.rules.specs.Bytes.{bytes}
use Rattle.rules.proofs.Bytes.{length_bytes}
use Rattle.lists.proofs.Sets.{sets_append}
use Rattle.codec.proofs.numbers.put_records.Goals as goal

pub put_bytes-requires : goal.put_bytes-requires
put_bytes-requires c =
    let e = ap length c.take.ensures.1 ∙ length-take-le (c.args.used * c.args.size) c.args.table.now (omega arith) in
    omega (arith, e)

pub returns : goal.returns
returns c =
    let m : c.args.at + 4 ≡ c.args.at + length (bytes 4 c.args.used) = omega (arith, length_bytes 4 c.args.used) in
    let part = take (c.args.used * c.args.size) c.args.table.now in
    c.put_bytes.ensures
    ∙ ap (λ (l : List ℕ). sets c.put_u32.new.s (c.args.at + 4) l) c.take.ensures.1
    ∙ ap (λ (l : List ℕ). sets l (c.args.at + 4) part) c.put_u32.ensures
    ∙ ap (λ (k : ℕ). sets (sets c.args.out.now c.args.at (bytes 4 c.args.used)) k part) m
    ∙ sym (sets_append c.args.out.now c.args.at (bytes 4 c.args.used) part)
