-- `room::count::held_above` meets its contract. Assumes nothing.
use mathlib.Core.Path.{refl, sym, ◌∙◌}
use native.Mathlib.Omega.{arith}
use borrow.Author.Rules.{rules}
use Rattle.rules.specs.Board.{confirmed_size, confirmed_most}
use Rattle.table.proofs.Sound.{sound_told}
use Rattle.by_id.proofs.ById.{searchable, in_table}
use Rattle.room.proofs.Adding.{held_there, held_nowhere}
use Rattle.room.proofs.count.held_above.Goals as goal

pub find-requires : goal.find-requires
find-requires c = let both = searchable confirmed_size confirmed_size confirmed_most _ _ c.args.id.now refl (omega arith) c.requires.recent_value (search rules) in record { le_size = both.0; table_value = both.1.0 }

pub height_at-requires : goal.height_at-requires
height_at-requires c =
    in_table confirmed_size confirmed_size confirmed_most _ _ _ _ refl c.requires.recent_value (sym c.find.ensures ∙ c.in-Ok.is)

pub returns-in-Ok : goal.returns-in-Ok
returns-in-Ok c =
    let f = sym c.find.ensures ∙ c.in-Ok.is in
    held_there c.args.least.0 c.args.id.now c.args.kept _ c.args.recent.now (sound_told _ _ _ _ c.requires.recent_value).rise f _ c.height_at.ensures

pub returns-in-Err : goal.returns-in-Err
returns-in-Err c =
    held_nowhere c.args.least.0 c.args.id.now c.args.kept _ c.args.recent.now (sound_told _ _ _ _ c.requires.recent_value).rise (sym c.find.ensures ∙ c.in-Err.is)
