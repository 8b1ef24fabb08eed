-- `ids::order::compare` meets its contract. The invariant: the order of the two ids is that of what is left of them from double word `k` on. Assumes nothing.
use mathlib.Core.Path.{◌≡◌}
use Prim.Native.Nat.{◌*◌}
use lib.ListN.{drop}
use Rattle.ids.specs.Search.{cmp}
use Rattle.ids.proofs.Ids.{id32}
use Rattle.ids.proofs.order.compare.Given as goal

abbrev pub invariant-loop-k : goal.invariant-loop-k
invariant-loop-k l = cmp (id32 l.p l.a) (id32 l.q l.b) ≡ cmp (drop (8 * l.k) (id32 l.p l.a)) (drop (8 * l.k) (id32 l.q l.b))
