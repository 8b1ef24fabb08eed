-- The merge in place: the first n records are old ones that are not yet passed, behind them are as many places as new records are to come, and what stands behind
-- these is merged already. Assumes nothing.
use mathlib.Core.Path.{◌≡◌, refl, sym, ap, ap₂, subst, ◌∙◌}
use mathlib.Core.Bool.{Bool, true, cond}
use mathlib.Core.List.{List, [], ◌∷◌, ◌++◌, map, append_assoc, append-nil}
use Prim.Native.Nat.{ℕ, zero, suc, ◌+◌, ◌*◌, ◌≤◌, ◌<◌}
use native.Mathlib.Omega.{arith}
use lib.Dec.{eqb}
use lib.ListN.{length, get_or, take, drop, length-map, length-append, length-drop, take-append-drop, drop_of_length-le, get_or-map}
use lib.Seq.{take_all, take_at, length-take-le}
use borrow.Author.Tests.{eq-eqb, ne_eqb}
use Rattle.rules.specs.Ids.{Id, below, rising}
use Rattle.rules.specs.Bytes.{bytes}
use Rattle.rules.specs.Board.{confirmed_size, confirmed_bytes}
use Rattle.rules.specs.Records.{records, joined, id_of, laid}
use Rattle.rules.proofs.All.{All}
use Rattle.rules.proofs.Bytes.{length_bytes}
use Rattle.rules.proofs.Ids.{Up, up_of, rising_of}
use Rattle.rules.proofs.Records.{Sized, length_records, sized_records}
use Rattle.ids.specs.Search.{find_in}
use Rattle.ids.proofs.Records.{record_end, length_ids, id_at}
use Rattle.table.proofs.Records.{take_records, sized_at}
use Rattle.table.proofs.Laid.{laid_full, laid_same}
use Rattle.batch.specs.Batch.{merged}
use Rattle.batch.specs.Picked.{picked}
use Rattle.batch.proofs.Rising.{up_take, under_at}
use Rattle.batch.proofs.Picked.{all_picked, picked_take, picked_back, map_picked}
use Rattle.merges.specs.New.{at_height, rank_of, opened, Given}
use Rattle.merges.proofs.Between.{merged_last}
use Rattle.merges.proofs.Opening.{Opened, opened_is}
use Rattle.merges.proofs.Ranks.{Ranked, ranked, rank_within}

-- ---- a new record

named : (B : ℕ) (r : List ℕ) → 32 ≤ length r → id_of (at_height B r) ≡ id_of r
unfolding confirmed_bytes
named B r h = take_at (take 32 r) (bytes 4 B) 32 (length-take-le 32 r h)

sized_new : (B : ℕ) (i : Id) → length i ≡ 32 → length (confirmed_bytes (record { id = i; height = B })) ≡ confirmed_size
unfolding confirmed_bytes
sized_new B i h = length-append i (bytes 4 B) ∙ omega (arith, length_bytes 4 B)

-- ---- the loop

-- the table, the marks and the confirmed records as they were
module _ (size used kept fresh B : ℕ) (ps ms xs : List ℕ) where
  abbrev rs : List (List ℕ)
  rs = records size used ps

  abbrev qs : List (List ℕ)
  qs = map (at_height B) rs

  -- the new records among the first j places
  abbrev new : ℕ → List (List ℕ)
  new j = picked 1 (take j ms) (take j qs)

  -- n old records and j places are not yet passed, and l new records are to come
  pub record Merging (a : List ℕ) (n l j : ℕ) : Type 0 where
    pub joins : merged id_of (picked 1 ms qs) (records confirmed_size kept xs) ≡ merged id_of (new j) (records confirmed_size n a) ++ drop (n + l) (records confirmed_size (kept + fresh) a)
    pub counts : l ≡ length (new j)
    pub rises : rising (map id_of (records confirmed_size n a)) ≡ true
    pub room : n + l ≤ kept + fresh
    pub places : j ≤ used
    pub beyond : drop ((kept + fresh) * confirmed_size) a ≡ drop ((kept + fresh) * confirmed_size) xs
    pub long : length a ≡ length xs

  module _ (g : Given size used kept fresh ps ms xs) where
    same_ids : (ls : List (List ℕ)) → Sized size ls → map id_of (map (at_height B) ls) ≡ map id_of ls
    unfolding Sized
    same_ids [] s = refl
    same_ids (l ∷ ls) s = ap₂ {C = List Id} (λ i is. i ∷ is) (named B l (omega (arith, s.0, g.wide))) (same_ids ls s.1)

    up_new : Up id_of qs
    up_new = up_of id_of qs (ap rising (same_ids rs (sized_records size used ps g.table_room)) ∙ g.table_up)

    long_new : length qs ≡ used
    long_new = length-map rs (at_height B) ∙ length_records size used ps

    all_new : new used ≡ picked 1 ms qs
    all_new = ap (picked 1 (take used ms)) (take_all used qs (omega (arith, long_new))) ∙ picked_take 1 used ms qs (omega (arith, long_new))

    pub merging_start : Merging xs kept fresh used
    merging_start =
        let none_left : drop (kept + fresh) (records confirmed_size (kept + fresh) xs) ≡ [] = drop_of_length-le _ {i = kept + fresh} (omega (arith, length_records confirmed_size (kept + fresh) xs)) in
        record {
          joins = sym (ap₂ (λ (ns back : List (List ℕ)). merged id_of ns (records confirmed_size kept xs) ++ back) all_new none_left ∙ append-nil _);
          counts = g.many ∙ sym (length-map (picked 1 ms rs) (at_height B)) ∙ ap length (map_picked 1 (at_height B) ms rs ∙ sym all_new);
          rises = g.recent_up;
          room = omega arith;
          places = omega arith;
          beyond = refl;
          long = refl;
        }

    -- where no place is left no new record is to come
    pub none_left : {a : List ℕ} {n l j : ℕ} → Merging a n l j → j ≡ 0 → l ≡ 0
    unfolding picked
    none_left {j = zero} v e = omega (arith, v.counts)
    none_left {j = suc j} v e = absurd (omega arith)

    -- the table and its records are within the bytes
    pub table_fits : {a : List ℕ} {n l j : ℕ} → Merging a n l j → (n + l) * confirmed_size ≤ length a
    table_fits v = omega (arith, v.room, v.long, g.recent_room)

    module _ {a : List ℕ} {n l j : ℕ} (v : Merging a n l j) (p : ℕ) (q : j ≡ suc p) where
      here : p < used
      here = omega (arith, v.places)

      pub mark_there : p < length ms
      mark_there = omega (arith, here, g.marks_room)

      pub id_there : p * size + 32 ≤ length ps
      id_there = omega (arith, record_end size used p here, g.wide, g.table_room)

      id_length : length (take 32 (drop (p * size) ps)) ≡ 32
      id_length = length-take-le 32 (drop (p * size) ps) (omega (arith, length-drop (p * size) ps, id_there))

      -- the new record of this place
      abbrev x : List ℕ
      x = get_or qs p (at_height B [])

      abbrev lent_id : Id
      lent_id = take 32 (drop (p * size) ps)

      its_id : lent_id ≡ id_of (get_or rs p [])
      its_id = sym (id_at size used p ps g.wide here)

      new_is : confirmed_bytes (record { id = lent_id; height = B }) ≡ x
      new_is = ap (λ (i : Id). confirmed_bytes (record { id = i; height = B })) its_id ∙ sym (get_or-map (at_height B) rs p [])

      new_id : id_of x ≡ lent_id
      new_id =
          let s : length (get_or rs p []) ≡ size = sized_at size p rs (sized_records size used ps g.table_room) (omega (arith, length_records size used ps, here)) in
          ap id_of (get_or-map (at_height B) rs p []) ∙ named B (get_or rs p []) (omega (arith, g.wide)) ∙ sym its_id

      next_new : new j ≡ new p ++ cond (eqb (get_or ms p 0) 1) (x ∷ []) []
      next_new = ap new q ∙ picked_back 1 p (at_height B []) ms qs mark_there (omega (arith, here, long_new))

      -- the mark is not 1
      pub merging_skip : (get_or ms p 0 ≡ 1 → ⊥) → Merging a n l p
      merging_skip e =
          let same : new j ≡ new p = next_new ∙ ap (λ (t : Bool). new p ++ cond t (x ∷ []) []) (ne_eqb (get_or ms p 0) 1 e) ∙ append-nil (new p) in
          record {
            joins = v.joins ∙ ap (λ (ns : List (List ℕ)). merged id_of ns (records confirmed_size n a) ++ drop (n + l) (records confirmed_size (kept + fresh) a)) same;
            counts = v.counts ∙ ap length same;
            rises = v.rises;
            room = v.room;
            places = omega (arith, here);
            beyond = v.beyond;
            long = v.long;
          }

      -- it is 1, and the record has gone in
      pub merging_turn : (k : ℕ) → l ≡ suc k → get_or ms p 0 ≡ 1 → (i : ℕ) (b : List ℕ)
          → i ≡ rank_of (find_in (take 32 (drop (p * size) ps)) (map id_of (records confirmed_size n a)))
          → b ≡ opened i n l (confirmed_bytes (record { id = take 32 (drop (p * size) ps); height = B })) a
          → Merging b i k p
      merging_turn k f e i b r o =
          record {
            joins = v.joins
                ∙ ap₂ (λ (ns cs : List (List ℕ)). merged id_of ns cs ++ drop (n + l) all) one_more (sym (take-append-drop i old))
                ∙ ap₂ (λ (front : List (List ℕ)) (z : ℕ). front ++ drop (n + z) all) (merged_last id_of (new p) x under w.low w.high) f
                ∙ append_assoc (merged id_of (new p) (take i old)) (x ∷ drop i old) (drop (n + suc k) all)
                ∙ ap₂ (λ (cs back : List (List ℕ)). merged id_of (new p) cs ++ back) (take_records confirmed_size i n a low_enough ∙ sym t.front) (sym t.back);
            counts = (let z : length (new p ++ x ∷ []) ≡ length (new p) + 1 = length-append (new p) (x ∷ []) in omega (arith, v.counts, ap length one_more));
            rises = rising_of id_of (subst (Up id_of) (take_records confirmed_size i n a low_enough ∙ sym t.front) (up_take id_of i up_old));
            room = omega (arith, v.room, low_enough);
            places = omega (arith, here);
            beyond = t.beyond ∙ v.beyond;
            long = t.long ∙ v.long;
          }
        where
          all : List (List ℕ)
          all = records confirmed_size (kept + fresh) a

          old : List (List ℕ)
          old = records confirmed_size n a

          up_old : Up id_of old
          up_old = up_of id_of old v.rises

          one_more : new j ≡ new p ++ x ∷ []
          one_more = next_new ∙ ap (λ (t : Bool). new p ++ cond t (x ∷ []) []) (eq-eqb (get_or ms p 0) 1 e)

          under : All (λ c. below (id_of c) (id_of x) ≡ true) (new p)
          under = all_picked 1 (take p ms) (under_at id_of p (at_height B []) up_new (omega (arith, here, long_new)))

          w : Ranked id_of x old i
          w = ranked id_of x i up_old (r ∙ ap (λ (z : Id). rank_of (find_in z (map id_of old))) (sym new_id))

          low_enough : i ≤ n
          low_enough = omega (arith, rank_within lent_id (map id_of old) i r, length_ids confirmed_size n a)

          size_x : length x ≡ confirmed_size
          size_x = ap length (sym new_is) ∙ sized_new B lent_id id_length

          t : Opened (kept + fresh) i n k a x b
          t =
              opened_is (kept + fresh) i n k a x b size_x low_enough (omega (arith, v.room)) (omega (arith, v.long, g.recent_room))
              (o ∙ ap₂ (λ (z : ℕ) (y : List ℕ). opened i n z y a) f new_is)

    pub merging_stop : {a : List ℕ} {n l j : ℕ} → Merging a n l j → l ≡ 0 → a ≡ laid confirmed_size (kept + fresh) (merged id_of (picked 1 ms qs) (records confirmed_size kept xs)) xs
    unfolding merged
    merging_stop {a} {n} {l} {j} v z =
        let m : ℕ = kept + fresh in
        let R : List (List ℕ) = records confirmed_size m a in
        let none_new : new j ≡ [] = empty (new j) (omega (arith, v.counts)) in
        let end : n + l ≡ n = omega arith in
        let is : merged id_of (picked 1 ms qs) (records confirmed_size kept xs) ≡ R =
        v.joins
        ∙ ap₂ (λ (ns : List (List ℕ)) (i : ℕ). merged id_of ns (records confirmed_size n a) ++ drop i R) none_new end
        ∙ ap (λ (cs : List (List ℕ)). cs ++ drop n R) (sym (take_records confirmed_size n m a (omega (arith, v.room))))
        ∙ take-append-drop n R in
        sym (laid_same confirmed_size m a (omega (arith, v.long, g.recent_room)))
        ∙ laid_full confirmed_size m R a (length_records confirmed_size m a)
        ∙ ap₂ (λ (cs : List (List ℕ)) (back : List ℕ). joined cs ++ back) (sym is) v.beyond
        ∙ sym (laid_full confirmed_size m (merged id_of (picked 1 ms qs) (records confirmed_size kept xs)) xs (ap length is ∙ length_records confirmed_size m a))
      where
        empty : (ys : List (List ℕ)) → length ys ≡ 0 → ys ≡ []
        empty [] h = refl
        empty (y ∷ ys) h = absurd (omega arith)
