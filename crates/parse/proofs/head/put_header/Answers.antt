-- `parse::head::put_header` meets its contract: four puts one after the other are one put of the header's bytes. Assumes nothing.
use mathlib.Core.Path.{ap, ◌∙◌}
use mathlib.Core.List.{List, ◌++◌}
use Prim.Native.Nat.{ℕ, ◌+◌}
use lib.Seq.{sets}
use Rattle.rules.specs.Bytes.{bytes}
use Rattle.format.specs.File.{version_told, last_bytes}
use Rattle.parse.proofs.Putting.{put_head}
use Rattle.parse.proofs.head.put_header.Goals as goal

pub returns : goal.returns
returns c =
    let v = version_told c.args.version in
    c.put_last.ensures
    ∙ ap (λ (l : List ℕ). sets l (12 + c.after_len.result) (last_bytes c.args.last ++ bytes 4 142))
    (c.put_after.ensures
    ∙ ap (λ (l : List ℕ). sets l 12 v.after) (c.put_u32.ensures ∙ ap (λ (l : List ℕ). sets l 8 (bytes 4 c.number_of.result)) c.put_u64.ensures))
    ∙ put_head v c.args.out.now c.args.last c.number_of.result (12 + c.after_len.result) c.number_of.ensures (ap (λ (i : ℕ). 12 + i) c.after_len.ensures.value)
