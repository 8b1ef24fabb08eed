-- `print::put` meets its contract: what is copied behind the cursor is what `write` sets there.
-- Assumes nothing.
use mathlib.Core.Path.{sym}
use native.Mathlib.Omega.{arith}
use Rattle.print.proofs.Pages.{write_none, copied}
use Rattle.print.proofs.put.Goals as goal

pub returns-then-out-at : goal.returns-then-out-at
returns-then-out-at c = sym (write_none c.args.text.now c.args.out.now c.args.at (omega arith))

pub returns-then-out-at-2 : goal.returns-then-out-at-2
returns-then-out-at-2 c = sym (write_none c.args.text.now c.args.out.now c.args.at (omega arith))

pub returns : goal.returns
returns c = copied c.args.text.now c.args.out.now _ c.args.at _ (omega arith) (omega arith) c.copy_from_slice.ensures.after
