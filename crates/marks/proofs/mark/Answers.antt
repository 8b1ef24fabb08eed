-- `marks::mark` meets its contract. Assumes nothing.
use mathlib.Core.Path.{sym, ◌∙◌}
use native.Mathlib.Omega.{arith}
use Rattle.ids.proofs.Records.{length_ids}
use Rattle.ids.proofs.Search.{at_told}
use Rattle.marks.proofs.mark.Goals as goal

-- a record that is found is a used one
pub bounds-marks-i : goal.bounds-marks-i
bounds-marks-i c =
    let t = at_told _ _ _ (sym c.find.ensures ∙ c.in-Ok.is) in
    omega (arith, c.requires.used_in_bounds, t.within, length_ids c.args.size c.args.used c.args.table.now)
