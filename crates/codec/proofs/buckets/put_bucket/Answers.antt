-- `codec::buckets::put_bucket` meets its contract: three puts one after the other are one put of the bucket's bytes. Assumes nothing.
use mathlib.Core.Path.{ap, ◌∙◌}
use mathlib.Core.List.{List}
use Prim.Native.Nat.{ℕ, ◌+◌}
use native.Mathlib.Omega.{arith}
use lib.ListN.{take, drop, length-drop}
use lib.Seq.{sets}
use Rattle.format.specs.File.{row_bytes}
use Rattle.codec.proofs.Written.{bucket_put}
use Rattle.codec.proofs.buckets.put_bucket.Goals as goal

pub returns : goal.returns
returns c =
    let cs = drop c.args.from c.args.confirmed.now in
    let ds = drop c.args.from c.args.resolved.now in
    c.put_row-2.ensures
    ∙ ap (λ (l : List ℕ). sets l (c.args.at + 208) (row_bytes (take 25 ds)))
    (c.put_row.ensures ∙ ap (λ (l : List ℕ). sets l (c.args.at + 8) (row_bytes (take 25 cs))) c.put_u64.ensures)
    ∙ bucket_put c.args.out.now c.args.at c.args.rate.0 cs ds (simp length-drop (omega arith))
