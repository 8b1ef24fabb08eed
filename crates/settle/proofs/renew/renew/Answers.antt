-- `settle::renew` meets its contract.
-- Assumes nothing.
use Rattle.std.specs.Prelude.{Ok}
use mathlib.Core.Path.{◌≡◌, sym, ◌∙◌}
use mathlib.Core.Bool.{true≢false}
use mathlib.Core.List.{List, map}
use Prim.Native.Nat.{ℕ, ◌+◌, ◌*◌, ◌≤◌}
use native.Mathlib.Omega.{arith}
use Rattle.rules.specs.Records.{records, id_of}
use Rattle.ids.specs.Search.{find_in}
use Rattle.ids.proofs.Records.{record_end}
use Rattle.table.proofs.View.{gap_any}
use Rattle.table.proofs.Placed.{at_within, at_bytes}
use Rattle.settle.proofs.renew.renew.Goals as goal
use Rattle.settle.proofs.renew.renew.Goals.{Start}

abbrev rs : Start → List (List ℕ)
rs s = records s.args.size s.args.used s.args.table.now

end : (s : Start) (i : ℕ) → find_in (id_of s.args.rec.now) (map id_of (rs s)) ≡ Ok i → i * s.args.size + s.args.size ≤ s.args.used * s.args.size
end s i f =
    record_end s.args.size s.args.used i (at_within s.args.size s.args.used i s.args.rec.now s.args.table.now s.requires.table_value f)

pub find-requires : goal.find-requires
find-requires c = record { le_size = c.requires.le_size; table_value = c.requires.table_value }

pub overflow_mul-i : goal.overflow_mul-i
overflow_mul-i c = omega (arith, end (goal.at.overflow_mul-i c).Start c.in-Ok.i (sym (rw c.id_at.ensures at c.find.ensures) ∙ c.in-Ok.is))

pub put_bytes-requires : goal.put_bytes-requires
put_bytes-requires c = omega (arith, end (goal.at.put_bytes-requires c).Start c.in-Ok.i (sym (rw c.id_at.ensures at c.find.ensures) ∙ c.in-Ok.is))

pub returns-in-Ok : goal.returns-in-Ok
returns-in-Ok c =
    c.put_bytes.ensures
    ∙ at_bytes c.args.size c.args.used c.in-Ok.i c.args.rec.now c.args.table.now c.requires.table_value (sym (rw c.id_at.ensures at c.find.ensures) ∙ c.in-Ok.is) c.requires.rec_len c.requires.le_size.1

-- the id is there, so the search does not miss it
pub returns-in_default : goal.returns-in_default
returns-in_default c =
    absurd (true≢false (sym c.requires.table_value_2 ∙ gap_any id_of (id_of c.args.rec.now) 0 c.in_default.field-0 (rs (goal.at.returns-in_default c).Start) c.requires.table_value (sym (rw c.id_at.ensures at c.find.ensures) ∙ c.in_default.is)))
