-- The loop that puts each record of a file where its id stands: as every id stands there already, placing a record leaves the ids as they are. Assumes nothing.
use Rattle.std.specs.Prelude.{Ok, Err}
use mathlib.Core.Path.{◌≡◌, refl, sym, ap, ◌∙◌}
use mathlib.Core.Bool.{Bool, true, ◌||◌, true≢false}
use mathlib.Core.List.{List, [], ◌∷◌, map}
use Prim.Native.Nat.{ℕ, zero, suc, ◌+◌, ◌*◌, ◌-◌, ◌≤◌, ◌<◌, zero-le}
use native.Mathlib.Nat.{not-suc-le-zero, le_of_suc-le-suc, zero-add}
use native.Mathlib.Numerals.{add-one}
use native.Mathlib.Omega.{arith}
use lib.ListN.{length, take, drop, get_or, set, length-set, drop_of_length-le}
use lib.Seq.{drop-cons, set-get_or}
use Rattle.rules.specs.Lists.{any, every}
use Rattle.rules.specs.Ids.{Id, same, rising, placed, dropped}
use Rattle.rules.specs.Records.{records, laid, id_of}
use Rattle.rules.proofs.Records.{Sized, and_left, and_right, length_records, sized_records}
use Rattle.format.specs.File.{settled}
use Rattle.ids.specs.Search.{find_in}
use Rattle.ids.specs.Search.{Found}
use Rattle.ids.proofs.Search.{at_told}
use Rattle.table.proofs.View.{gap_any, at_set, map_set}
use Rattle.ids.proofs.Records.{get_or_records}
use Rattle.table.proofs.Records.{sized_set, sized_at}
use Rattle.table.proofs.Holding.{Holds, holds_own, holds_length, holds_records, holds_then}

-- ---- a record whose id is there

-- where it stands
stands : (q : List ℕ) (rs : List (List ℕ)) → rising (map id_of rs) ≡ true → any (λ r. same (id_of r) (id_of q)) rs ≡ true → (k : ℕ) × (find_in (id_of q) (map id_of rs) ≡ Ok k)
stands q rs up there = go (find_in (id_of q) (map id_of rs)) refl
  where
    go : (o : Found) → find_in (id_of q) (map id_of rs) ≡ o → (k : ℕ) × (find_in (id_of q) (map id_of rs) ≡ Ok k)
    go (Ok k) e = (k, e)
    go (Err n) e = absurd (true≢false (sym there ∙ gap_any id_of (id_of q) 0 n rs up e))

module _ (q : List ℕ) (rs : List (List ℕ)) (up : rising (map id_of rs) ≡ true) (there : any (λ r. same (id_of r) (id_of q)) rs ≡ true) where
  abbrev at : ℕ
  at = (stands q rs up there).0

  placed_is : set rs at q ≡ placed id_of q rs
  unfolding placed dropped
  placed_is = at_set id_of q 0 at rs up (rw zero-add (stands q rs up there).1)

  pub placed_ids : map id_of (placed id_of q rs) ≡ map id_of rs
  placed_ids =
      ap (map id_of) (sym placed_is) ∙ map_set id_of at q rs
      ∙ ap (set (map id_of rs) at) (sym (at_told (id_of q) (map id_of rs) at (stands q rs up there).1).is) ∙ set-get_or (map id_of rs) at []

  placed_sized : (size : ℕ) → length q ≡ size → Sized size rs → Sized size (placed id_of q rs)
  placed_sized size l s = rw (← placed_is) (sized_set size at q rs l s)

  pub placed_long : length (placed id_of q rs) ≡ length rs
  placed_long = ap length (sym placed_is) ∙ length-set rs at q

-- whether an id is there is seen from the ids
pub any_ids : (i : Id) (rs : List (List ℕ)) → any (λ r. same (id_of r) i) rs ≡ any (λ j. same j i) (map id_of rs)
unfolding any
any_ids i [] = refl
any_ids i (r ∷ rs) = ap (λ (b : Bool). same (id_of r) i || b) (any_ids i rs)

every_at : {A : Type 0} (f : A → Bool) (xs : List A) (i : ℕ) (d : A) → every f xs ≡ true → i < length xs → f (get_or xs i d) ≡ true
unfolding every
every_at f [] i d e h = absurd (not-suc-le-zero h)
every_at f (x ∷ xs) zero d e h = and_left (f x) (every f xs) e
every_at f (x ∷ xs) (suc i) d e h = every_at f xs i d (and_right (f x) (every f xs) e) (le_of_suc-le-suc h)

-- ---- the loop

-- the first i records of the file are placed
pub record Renewing (size used n : ℕ) (xs file a : List ℕ) (i : ℕ) : Type 0 where
  pub within : i ≤ n
  pub rs : List (List ℕ)
  pub holds : Holds size used xs rs a
  pub ids : map id_of rs ≡ map id_of (records size used xs)
  pub rest : settled id_of rs (drop i (records size n file)) ≡ settled id_of (records size used xs) (records size n file)

module _ (size used n : ℕ) (xs file : List ℕ) where
  abbrev fs : List (List ℕ)
  fs = records size n file

  pub renewing_none : used * size ≤ length xs → Renewing size used n xs file xs 0
  renewing_none h = record { within = zero-le; rs = records size used xs; holds = holds_own size used xs h; ids = refl; rest = refl }

  -- record i of the file, as the code cuts it out
  pub part_is : (i : ℕ) → i < n → take (i * size + size - i * size) (drop (i * size) file) ≡ get_or fs i []
  part_is i h =
      let e : i * size + size - i * size ≡ size = omega arith in
      ap (λ (m : ℕ). take m (drop (i * size) file)) e ∙ sym (get_or_records size n i file h)

  module _ (room : n * size ≤ length file) (up : rising (map id_of (records size used xs)) ≡ true)
      (all : every (λ q. any (λ r. same (id_of r) (id_of q)) (records size used xs)) (records size n file) ≡ true)
      (a b : List ℕ) (i : ℕ) (t : Renewing size used n xs file a i) where
    pub length_renewing : length a ≡ length xs
    length_renewing = holds_length size used xs t.holds

    own : records size used a ≡ t.rs
    own = holds_records size used xs t.holds

    still_up : rising (map id_of t.rs) ≡ true
    still_up = rw t.ids up

    still_there : i < n → any (λ r. same (id_of r) (id_of (get_or fs i []))) t.rs ≡ true
    still_there h =
        any_ids (id_of (get_or fs i [])) t.rs
        ∙ ap (any (λ j. same j (id_of (get_or fs i [])))) t.ids
        ∙ sym (any_ids (id_of (get_or fs i [])) (records size used xs))
        ∙ every_at (λ q. any (λ r. same (id_of r) (id_of q)) (records size used xs)) fs i [] all (rw length_records h)

    pub renewing_up : rising (map id_of (records size used a)) ≡ true
    renewing_up = rw own still_up

    pub renewing_there : (q : List ℕ) → i < n → q ≡ get_or fs i [] → any (λ r. same (id_of r) (id_of q)) (records size used a) ≡ true
    renewing_there q h e = rw (own, e) (still_there h)

    pub part_long : i < n → length (get_or fs i []) ≡ size
    part_long h = sized_at size i fs (sized_records size n file room) (rw length_records h)

    pub renewing_more : (q : List ℕ) → i < n → q ≡ get_or fs i [] → b ≡ laid size used (placed id_of q (records size used a)) a → Renewing size used n xs file b (i + 1)
    unfolding settled
    renewing_more q h e f =
        let x : List ℕ = get_or fs i [] in
        let there = still_there h in
        let z : b ≡ laid size used (placed id_of x t.rs) a = f ∙ ap (λ (rs : List (List ℕ)). laid size used (placed id_of q rs) a) own ∙ ap (λ (p : List ℕ). laid size used (placed id_of p t.rs) a) e in
        let d : drop i fs ≡ x ∷ drop (i + 1) fs = rw add-one (drop-cons fs i [] (rw length_records h)) in
        record {
          within = omega arith;
          rs = placed id_of x t.rs;
          holds = holds_then size used xs t.holds (placed_sized x t.rs still_up there size (part_long h) t.holds.sized) (placed_long x t.rs still_up there ∙ t.holds.long) z;
          ids = placed_ids x t.rs still_up there ∙ t.ids;
          rest = ap (settled id_of t.rs) (sym d) ∙ t.rest;
        }

    pub renewing_end : n ≤ i → a ≡ laid size used (settled id_of (records size used xs) fs) xs
    unfolding settled
    renewing_end h =
        let e : drop i fs ≡ [] = drop_of_length-le fs {i = i} (rw length_records h) in
        t.holds.is ∙ ap (λ (rs : List (List ℕ)). laid size used rs xs) (ap (settled id_of t.rs) (sym e) ∙ t.rest)
