use mathlib.Core.Path.{◌≡◌, ap, ap₂, ◌∙◌}
use mathlib.Core.List.{List, ◌++◌}
use Prim.Native.Nat.{ℕ}
use lib.ListN.{drop, replicate}
use lib.Seq.{length-take-le}
use lib.Ieee.{Float}
use Rattle.rules.specs.Counts.{no_counts, places_of_counts}
use Rattle.floats.proofs.Bits.{zero_is}
use Rattle.counts.proofs.clear.clear_counts.Goals as goal

pub returns : goal.returns
returns c =
    let counts = c.args.counts.now in
    let n = length-take-le places_of_counts counts c.requires in
    let e : c.fill.new.self ≡ no_counts = c.fill.ensures.after (λ y h. h) ∙ ap₂ (λ (k : ℕ) (x : Float). replicate k x) n zero_is in
    ap (λ (l : List Float). l ++ drop places_of_counts counts) e
