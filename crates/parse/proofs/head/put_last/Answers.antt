-- `parse::head::put_last` meets its contract, by the last height: the puts stand one after the other. Assumes nothing.
use mathlib.Core.Path.{◌≡◌, sym, ap, ◌∙◌}
use mathlib.Core.List.{List, ◌++◌}
use Prim.Native.Nat.{ℕ, ◌+◌}
use native.Mathlib.Omega.{arith}
use lib.Seq.{sets}
use Rattle.kinds.specs.Last.{Last}
use Rattle.rules.specs.Bytes.{bytes}
use Rattle.format.specs.File.{height_length, last_bytes}
use Rattle.parse.proofs.Putting.{put_none, put_at}
use Rattle.parse.proofs.head.put_last.Goals as goal

pub returns-in-None : goal.returns-in-None
returns-in-None c =
    c.put_u32.ensures
    ∙ ap (λ (l : List ℕ). sets l (c.args.at + 1) (bytes 4 142)) c.put_u8.ensures
    ∙ put_none c.args.out.now c.args.at
    ∙ ap (λ (l : Last). sets c.args.out.now c.args.at (last_bytes l ++ bytes 4 142)) (sym c.in-None.is)

pub returns-in-Some : goal.returns-in-Some
returns-in-Some c =
    c.put_u32-in-Some-2.ensures
    ∙ ap (λ (o : List ℕ). sets o (c.args.at + 5) (bytes 4 142)) (c.put_u32-in-Some.ensures ∙ ap (λ (o : List ℕ). sets o (c.args.at + 1) (bytes 4 c.in-Some.h.0)) c.put_u8-in-Some.ensures)
    ∙ put_at c.args.out.now c.args.at c.in-Some.h.0
    ∙ ap (λ (x : Last). sets c.args.out.now c.args.at (last_bytes x ++ bytes 4 142)) (sym c.in-Some.is)
