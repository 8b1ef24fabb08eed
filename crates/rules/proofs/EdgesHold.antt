-- Every edge of both tables holds on its board, computed through the public calls' definitions. Assumes nothing.
use lib.Dec.{T}
use Rattle.rules.specs.Lists.{every}
use Rattle.rules.specs.Board.{base, wide}
use Rattle.rules.proofs.Computed.{compute_calls}
use Rattle.rules.proofs.Edge.{answer_of, holds_true}
use Rattle.rules.proofs.Edges.{decayed, edges}
use Rattle.rules.proofs.WideEdges.{wide_edges}

pub all_hold : T (every (holds_true base) edges)
unfolding compute_calls answer_of holds_true decayed edges
all_hold = tt

pub wide_hold : T (every (holds_true wide) wide_edges)
unfolding compute_calls answer_of holds_true decayed wide_edges
wide_hold = tt
