-- Records settle alike, whether they are seen as bytes or as what the bytes hold: only their ids are looked at. Assumes nothing.
use mathlib.Core.Path.{◌≡◌, refl, sym, ap, ap₂, ◌∙◌}
use mathlib.Core.Bool.{Bool, true, false, not, cond}
use mathlib.Core.List.{List, [], ◌∷◌, map}
use Prim.Native.Nat.{ℕ, zero, suc, ◌+◌, ◌*◌, ◌≤◌}
use native.Mathlib.Nat.{suc-mul}
use native.Mathlib.Omega.{arith}
use lib.Dec.{T}
use lib.ListN.{length, drop, length-drop, length-map}
use lib.Seq.{length-take-le}
use lib.Pow.{are_bytes}
use Rattle.rules.specs.Lists.{keep, insert}
use Rattle.rules.specs.Ids.{Id, same, below, dropped, placed}
use Rattle.rules.specs.Records.{records, id_of}
use Rattle.rules.specs.Board.{Kept}
use Rattle.rules.proofs.All.{All, none, more}
use Rattle.rules.proofs.Bytes.{bytes_take, bytes_drop}
use Rattle.format.specs.File.{settled}
use Rattle.format.proofs.Accepted.{settled_all}

module _ {A B : Type 0} (see : A → B) (id : A → Id) (name : B → Id) (named : (a : A) → name (see a) ≡ id a) where
  map_dropped : (i : Id) (rs : List A) → map see (dropped id i rs) ≡ dropped name i (map see rs)
  unfolding dropped keep
  map_dropped i [] = refl
  map_dropped i (r ∷ rs) = rw (named r) (go (not (same (id r) i)) (map_dropped i rs))
    where
      go : (t : Bool) → map see (dropped id i rs) ≡ dropped name i (map see rs) → map see (cond t (r ∷ dropped id i rs) (dropped id i rs)) ≡ cond t (see r ∷ dropped name i (map see rs)) (dropped name i (map see rs))
      go true e = ap (λ (l : List B). see r ∷ l) e
      go false e = e

  map_insert : (r : A) (rs : List A) → map see (insert (λ x y. below (id x) (id y)) r rs) ≡ insert (λ x y. below (name x) (name y)) (see r) (map see rs)
  unfolding insert
  map_insert r [] = refl
  map_insert r (q ∷ rs) = rw (named r, named q) (go (below (id r) (id q)) (map_insert r rs))
    where
      go : (t : Bool) → map see (insert (λ x y. below (id x) (id y)) r rs) ≡ insert (λ x y. below (name x) (name y)) (see r) (map see rs)
          → map see (cond t (r ∷ q ∷ rs) (q ∷ insert (λ x y. below (id x) (id y)) r rs)) ≡ cond t (see r ∷ see q ∷ map see rs) (see q ∷ insert (λ x y. below (name x) (name y)) (see r) (map see rs))
      go true e = refl
      go false e = ap (λ (l : List B). see q ∷ l) e

  map_placed : (r : A) (rs : List A) → map see (placed id r rs) ≡ placed name (see r) (map see rs)
  unfolding placed
  map_placed r rs =
      map_insert r (dropped id (id r) rs)
      ∙ ap (insert (λ x y. below (name x) (name y)) (see r)) (map_dropped (id r) rs ∙ rw (named r))

  map_settled : (table rs : List A) → map see (settled id table rs) ≡ settled name (map see table) (map see rs)
  unfolding settled
  map_settled table [] = refl
  map_settled table (r ∷ rs) = map_settled (placed id r table) rs ∙ ap (λ (t : List B). settled name t (map see rs)) (map_placed r table)

-- ---- the table of what the records hold

abbrev Whole : ℕ → List ℕ → Type 0
Whole size b = (length b ≡ size) × T (are_bytes b)

all_whole : (size n : ℕ) (xs : List ℕ) → n * size ≤ length xs → T (are_bytes xs) → All (Whole size) (records size n xs)
unfolding records
all_whole size zero xs h b = none
all_whole size (suc n) xs h b =
    let k : n * size + size ≤ length xs = rw suc-mul at h in
    more (length-take-le size xs (omega arith), bytes_take size xs b) (all_whole size n (drop size xs) (rw length-drop (omega arith)) (bytes_drop size xs b))

module _ {A : Type 0} {size : ℕ} {to : A → List ℕ} {from : List ℕ → A} {Fits : A → Type 0} (c : Kept A size to from Fits) (name : A → Id) (named : (b : List ℕ) → name (from b) ≡ id_of b) where
  all_forth : {bs : List (List ℕ)} → All (Whole size) bs → map to (map from bs) ≡ bs
  all_forth none = refl
  all_forth (more {a} h hs) = ap₂ {C = List (List ℕ)} (λ x xs. x ∷ xs) (c.forth a h.0 h.1) (all_forth hs)

  module _ (n : ℕ) (src : List ℕ) where
    seen : settled name [] (map from (records size n src)) ≡ map from (settled id_of [] (records size n src))
    seen = sym (map_settled from id_of name named [] (records size n src))

    pub same_count : length (settled id_of [] (records size n src)) ≡ length (settled name [] (map from (records size n src)))
    same_count = sym (ap length seen ∙ length-map (settled id_of [] (records size n src)) from)

    pub same_table : n * size ≤ length src → T (are_bytes src) → settled id_of [] (records size n src) ≡ map to (settled name [] (map from (records size n src)))
    same_table h b = sym (ap (map to) seen ∙ all_forth (settled_all id_of (all_whole size n src h b) none))
