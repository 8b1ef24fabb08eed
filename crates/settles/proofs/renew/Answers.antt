-- `settles::renew` meets its contract. Assumes nothing.
use mathlib.Core.Path.{refl, sym, ◌∙◌}
use native.Mathlib.Omega.{arith}
use Rattle.rules.specs.Board.{confirmed_size, confirmed_most}
use Rattle.table.proofs.Edited.{are_bytes_lem}
use Rattle.by_id.proofs.ById.{searchable, in_table}
use Rattle.settles.proofs.Renewing.{looked_same, looked_older, looked_none}
use borrow.Author.Rules.{rules}
use Rattle.settles.proofs.renew.Goals as goal

pub find-requires : goal.find-requires
find-requires c = let both = searchable confirmed_size confirmed_size confirmed_most _ _ c.args.id.now refl (omega arith) c.requires.recent_value (search rules) in record { le_size = both.0; table_value = both.1.0 }

pub height_at-was-requires : goal.height_at-was-requires
height_at-was-requires c =
    in_table confirmed_size confirmed_size confirmed_most _ _ _ _ refl c.requires.recent_value (sym c.find.ensures ∙ c.in-Ok.is)

pub put_field-requires : goal.put_field-requires
put_field-requires c =
    let p = in_table confirmed_size confirmed_size confirmed_most _ _ _ _ refl c.requires.recent_value
    (sym c.find.ensures ∙ c.in-Ok.is) in
    (p.0, (omega arith, p.1))

pub returns-then-was-h : goal.returns-then-was-h
returns-then-was-h c = let both = looked_same _ _ _ _ c.requires.recent_value _ (are_bytes_lem c.args.recent.now (λ i. search rules))
    (sym c.find.ensures ∙ c.in-Ok.is) _ c.height_at-was.ensures c.if-was-h.true in record { value = both.0; recent_after = both.1 }

pub returns-else-was-h : goal.returns-else-was-h
returns-else-was-h c = let both = looked_older _ _ _ _ c.requires.recent_value _ _ (are_bytes_lem c.put_field.new.table (λ i. (c.type_inv.recent i).fits)) (omega arith)
    (sym c.find.ensures ∙ c.in-Ok.is) _
    c.height_at-was.ensures c.if-was-h.false c.put_field.ensures in record { value = both.0; recent_after = both.1 }

pub returns-in-Err : goal.returns-in-Err
returns-in-Err c = let both = looked_none _ _ _ _ c.requires.recent_value _ (are_bytes_lem c.args.recent.now (λ i. search rules)) (sym c.find.ensures ∙ c.in-Err.is) in record { value = both.0; recent_after = both.1 }
