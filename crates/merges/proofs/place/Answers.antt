-- `merges::place` meets its contract. Assumes nothing.
use native.Mathlib.Omega.{arith}
use Rattle.rules.specs.Board.{confirmed_size}
use Rattle.ids.proofs.Records.{length_ids}
use Rattle.merges.proofs.Ranks.{rank_within}
use Rattle.merges.proofs.place.Goals as goal

pub put_below-requires : goal.put_below-requires
put_below-requires c =
    let w = rank_within _ _ c.rank-i.result c.rank-i.ensures in record { i_le_n = (omega (arith, w, length_ids confirmed_size c.args.n c.args.recent.now), c.requires.left_nonzero) }
