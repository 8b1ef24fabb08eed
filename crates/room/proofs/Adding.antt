-- A pending record that makes one confirmed record more, as the code finds it out: by its mark, by what the skipped heights leave, and by a search for its id
-- among the confirmed records. Assumes nothing.
use Rattle.std.specs.Prelude.{Ok, Err}
use mathlib.Core.Path.{◌≡◌, refl, sym, ap, ap₂, ◌∙◌}
use mathlib.Core.Bool.{Bool, true, false, not, ◌&&◌, ◌||◌}
use mathlib.Core.List.{List, [], ◌∷◌, map}
use Prim.Native.Nat.{ℕ}
use native.Mathlib.Nat.{zero-add}
use lib.Dec.{leb, eqb}
use lib.ListN.{get_or}
use borrow.Author.Tests.{eq-eqb, ne_eqb}
use Rattle.kinds.specs.Last.{Last}
use Rattle.rules.specs.Lists.{any}
use Rattle.rules.specs.Ids.{Id, same, rising}
use Rattle.rules.specs.Records.{records, id_of}
use Rattle.rules.specs.Board.{Board, Pending, Confirmed, confirmed_size, confirmed_of}
use Rattle.rules.specs.Memory.{confirmed_records}
use Rattle.ids.specs.Search.{find_in}
use Rattle.table.proofs.View.{gap_test, at_test}
use Rattle.room.specs.Room.{lasts_through, least_height, held_above, comes_new}

-- ---- its confirmed record

any_map : {A B : Type 0} (f : A → B) (p : B → Bool) (xs : List A) → any p (map f xs) ≡ any (λ x. p (f x)) xs
unfolding any
any_map f p [] = refl
any_map f p (x ∷ xs) = ap (λ (t : Bool). p (f x) || t) (any_map f p xs)

module _ (least : ℕ) (i : Id) (used n : ℕ) (xs : List ℕ) (up : rising (map id_of (records confirmed_size used xs)) ≡ true) where
  -- in the bytes
  abbrev high : List ℕ → Bool
  high b = leb least (confirmed_of b).height

  seen : held_above least (confirmed_records used xs) i ≡ any (λ b. same (id_of b) i && high b) (records confirmed_size used xs)
  unfolding held_above confirmed_records confirmed_of
  seen = any_map confirmed_of (λ c. same c.id i && leb least c.height) (records confirmed_size used xs)

  pub held_there : find_in i (map id_of (records confirmed_size used xs)) ≡ Ok n → (v : ℕ) → v ≡ (confirmed_of (get_or (records confirmed_size used xs) n [])).height
      → leb least v ≡ held_above least (confirmed_records used xs) i
  held_there f v e = ap (leb least) e ∙ sym (seen ∙ at_test id_of high [] i 0 n (records confirmed_size used xs) up (rw zero-add f))

  pub held_nowhere : find_in i (map id_of (records confirmed_size used xs)) ≡ Err n → false ≡ held_above least (confirmed_records used xs) i
  held_nowhere f = sym (seen ∙ gap_test id_of high i n (records confirmed_size used xs) up f)

-- ---- what it comes to

module _ (k : Board) (skipped : Last) (cs : List Confirmed) (r : Pending) (mark : ℕ) where
  pub unmarked : (mark ≡ 1 → ⊥) → false ≡ (eqb mark 1 && comes_new k skipped cs r)
  unmarked n = sym (rw (ne_eqb mark 1 n))

  module _ (m : mark ≡ 1) where
    pub expired : false ≡ lasts_through k skipped r → false ≡ (eqb mark 1 && comes_new k skipped cs r)
    unfolding comes_new
    expired e = sym (rw (eq-eqb mark 1 m, sym e))

    pub lasting : true ≡ lasts_through k skipped r → (least : ℕ) (i : Id) (t : Bool) → least ≡ least_height skipped → i ≡ r.id → t ≡ held_above least cs i
        → not t ≡ (eqb mark 1 && comes_new k skipped cs r)
    unfolding comes_new
    lasting e least i t el ei et = ap not (et ∙ ap₂ (λ (x : ℕ) (j : Id). held_above x cs j) el ei) ∙ sym (rw (eq-eqb mark 1 m, sym e))
