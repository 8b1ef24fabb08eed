-- `settle::same_ids` meets its contract.
-- Assumes nothing.
use mathlib.Core.Path.{◌≡◌, refl, sym, ap, ◌∙◌}
use Rattle.std.specs.declared.cmp.Ordering.{Ordering}
use Rattle.std.specs.declared.cmp.Ordering.TheVariants.{Less, Equal, Greater}
use Rattle.std.specs.Ordering.{is_eq}
use Rattle.rules.specs.Ids.{Id, same}
use Rattle.rules.proofs.Ids.{same_refl}
use Rattle.ids.specs.Search.{cmp}
use Rattle.ids.proofs.Ids.{id32, cmp_equal, cmp_above}
use Rattle.table.proofs.View.{under_apart, over_apart}
use Rattle.settle.proofs.once.same_ids.Goals as goal

equal_same : (a b : Id) → is_eq (cmp a b) ≡ same a b
equal_same a b = go (cmp a b) refl
  where
    go : (o : Ordering) → cmp a b ≡ o → is_eq o ≡ same a b
    go Less e = sym (under_apart a b e)
    go Equal e = sym (ap (same a) (sym (cmp_equal a b e)) ∙ same_refl a)
    go Greater e = sym (over_apart a b (cmp_above a b e))

pub returns : goal.returns
returns c = c.is_eq.ensures ∙ ap is_eq c.compare.ensures ∙ equal_same (id32 c.args.p c.args.table.now) (id32 c.args.q c.args.table.now)
