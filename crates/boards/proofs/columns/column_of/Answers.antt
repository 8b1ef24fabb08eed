use native.Mathlib.Omega.{arith}
use Rattle.boards.proofs.Times.{column_is}
use Rattle.boards.proofs.columns.column_of.Goals as goal

pub returns : goal.returns
returns c =
    column_is c.args.on c.width_of.result.0 c.first_column-c.result c.args.target.0 _ c.width_of.ensures.result_value c.first_column-c.ensures (omega (arith, c.min.ensures))
