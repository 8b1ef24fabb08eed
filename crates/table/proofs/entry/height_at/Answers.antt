-- `table::entry::height_at` meets its contract. Assumes nothing.
use mathlib.Core.Path.{◌∙◌}
use native.Mathlib.Omega.{arith}
use Rattle.table.proofs.Fields.{field_record}
use Rattle.rules.specs.Board.{confirmed_of}
use Rattle.table.proofs.entry.height_at.Goals as goal

pub returns : goal.returns
unfolding confirmed_of
returns c =
    c.u32_le.ensures ∙ field_record 36 32 c.args.used c.args.i c.args.table.now (omega arith) c.requires.0 c.requires.1
