-- A record stored over the one that has its id already. Assumes nothing.
use Rattle.std.specs.Prelude.{Ok}
use mathlib.Core.Path.{◌≡◌, ◌∙◌}
use mathlib.Core.Bool.{true}
use mathlib.Core.List.{List, map}
use Prim.Native.Nat.{ℕ, ◌*◌, ◌≤◌, ◌<◌}
use native.Mathlib.Nat.{zero-add}
use lib.ListN.{length, set, length-map}
use lib.Seq.{sets}
use Rattle.rules.specs.Ids.{rising, placed, dropped}
use Rattle.rules.specs.Records.{records, id_of, laid}
use Rattle.rules.proofs.Records.{length_records}
use Rattle.ids.specs.Search.{find_in}
use Rattle.table.proofs.Laid.{record_bytes}
use Rattle.ids.proofs.Search.{at_told}
use Rattle.table.proofs.View.{at_set}

module _ (size used at : ℕ) (rec xs : List ℕ) (up : rising (map id_of (records size used xs)) ≡ true) (f : find_in (id_of rec) (map id_of (records size used xs)) ≡ Ok at) where
  pub at_within : at < used
  at_within = rw (length-map, length_records) at (at_told (id_of rec) (map id_of (records size used xs)) at f).within

  at_is : set (records size used xs) at rec ≡ placed id_of rec (records size used xs)
  unfolding placed dropped
  at_is = at_set id_of rec 0 at (records size used xs) up (rw zero-add f)

  pub at_bytes : length rec ≡ size → used * size ≤ length xs → sets xs (at * size) rec ≡ laid size used (placed id_of rec (records size used xs)) xs
  at_bytes l h = record_bytes size used at rec xs at_within l h ∙ rw at_is
