-- Every edge of both tables holds on its board, computed through the public calls' definitions. Assumes nothing.
use lib.Dec.{T}
use Rattle.rules.specs.Lists.{every}
use Rattle.rules.specs.Board.{base, wide}
use Rattle.rules.proofs.Computed.{compute_calls}
use Rattle.rules.proofs.Edge.{answer_of, holds_true}
use Rattle.rules.proofs.Edges.{decayed}
use Rattle.edges.proofs.Base as on_base
use Rattle.edges.proofs.Wide as on_wide

pub base_holds : T (every (holds_true base) on_base.edges)
unfolding compute_calls answer_of holds_true decayed on_base.edges
base_holds = tt

pub wide_holds : T (every (holds_true wide) on_wide.edges)
unfolding compute_calls answer_of holds_true decayed on_wide.edges
wide_holds = tt
