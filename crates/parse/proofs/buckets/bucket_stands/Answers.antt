-- `parse::buckets::bucket_stands` meets its contract: the part that is taken is the bucket's bytes. Assumes nothing.
use mathlib.Core.Path.{sym, ap, ◌∙◌}
use mathlib.Core.List.{[], ◌∷◌}
use Prim.Native.Nat.{ℕ, ◌+◌, ◌*◌}
use native.Mathlib.Omega.{arith}
use lib.ListN.{drop}
use Rattle.format.specs.Parts.{is_read}
use Rattle.format.specs.File.{read_buckets}
use Rattle.codec.proofs.Loaded.{bucket_long, bucket_part}
use Rattle.parse.proofs.buckets.bucket_stands.Goals as goal

pub bucket_ok-requires : goal.bucket_ok-requires
bucket_ok-requires c = omega (arith, bucket_long c.args.s.now (c.args.at + 408 * c.args.i) c.part.result.now c.part.ensures (omega arith))

pub returns : goal.returns
returns c =
    let p = c.args.at + 408 * c.args.i in
    c.bucket_ok.ensures
    ∙ bucket_part c.args.s.now p c.part.result.now c.part.ensures (omega arith) c.rate_at.result.0
    ∙ ap (λ (r : ℕ). is_read (read_buckets (r ∷ []) (drop p c.args.s.now))) c.rate_at.ensures
