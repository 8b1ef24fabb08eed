-- `merges::put_below` meets its contract. Assumes nothing.
use borrow.Author.Rules.{rules}
use Rattle.merges.proofs.Opening.{put_in}
use Rattle.merges.proofs.put_below.Goals as goal

pub returns : goal.returns
returns c =
    put_in c.args.i c.args.n c.args.left c.args.h.0 c.args.id.now c.args.recent.now _ _ _ (search rules) c.shift_up.ensures c.put_bytes.ensures c.put_u32.ensures
