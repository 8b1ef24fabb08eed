-- `merges::rank` meets its contract. Assumes nothing.
use mathlib.Core.Path.{sym, ap, ◌∙◌}
use native.Mathlib.Omega.{arith}
use Rattle.rules.specs.Board.{confirmed_size}
use Rattle.ids.proofs.Records.{length_ids}
use Rattle.ids.proofs.Search.{at_told}
use Rattle.merges.specs.New.{rank_of}
use Rattle.merges.proofs.rank.Goals as goal

-- a record that is found is one of the first n
pub overflow_add-result : goal.overflow_add-result
overflow_add-result c =
    let t = at_told _ _ _ (sym c.find.ensures ∙ c.in-Ok.is) in
    omega (arith, c.requires.confirmed_size_in_bounds, t.within, length_ids confirmed_size c.args.n c.args.recent.now)

pub returns-in-Ok : goal.returns-in-Ok
returns-in-Ok c = sym (ap rank_of (sym c.find.ensures ∙ c.in-Ok.is))

pub returns-in-Err : goal.returns-in-Err
returns-in-Err c = sym (ap rank_of (sym c.find.ensures ∙ c.in-Err.is))
