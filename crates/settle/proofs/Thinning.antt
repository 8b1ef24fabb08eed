-- The loop that keeps one of neighbours with one id: those kept so far, and what the rest will add, are what all of them come to. Assumes nothing.
use mathlib.Core.Path.{◌≡◌, refl, sym, ap, ◌∙◌}
use mathlib.Core.Bool.{Bool, true, false, not, cond}
use mathlib.Core.List.{List, [], ◌∷◌, ◌++◌, append-nil, append_assoc}
use Prim.Native.Nat.{ℕ, suc, ◌+◌, ◌*◌, ◌-◌, ◌≤◌, ◌<◌}
use native.Mathlib.Nat.{zero-mul}
use native.Mathlib.Numerals.{add-one}
use native.Mathlib.Omega.{arith}
use lib.ListN.{length, take, drop, get_or, length-append, take-append-drop, drop_of_length-le}
use lib.Seq.{drop-cons, drop-drop, get_or_at}
use Rattle.lists.proofs.Part.{next_part}
use Rattle.rules.specs.Ids.{Id, same}
use Rattle.rules.specs.Records.{records, joined, id_of}
use Rattle.rules.proofs.Records.{Sized, length_records, sized_records, joined_records, records_joined}
use Rattle.table.specs.Edit.{Moved}
use Rattle.ids.proofs.Ids.{id32}
use Rattle.ids.proofs.Records.{get_or_records, record_end, id_at}
use Rattle.table.proofs.Records.{joined_snoc, sized_at}
use Rattle.settle.specs.Once.{once_after, once, Kept}

-- the records in front, known by their bytes
front_records : (size k : ℕ) (ks : List (List ℕ)) (a : List ℕ) → Sized size ks → length ks ≡ k → take (k * size) a ≡ joined ks → records size k a ≡ ks
front_records size k ks a s e f =
    ap (records size k) (sym (take-append-drop (k * size) a) ∙ ap (λ (l : List ℕ). l ++ drop (k * size) a) f)
    ∙ ap (λ (n : ℕ). records size n (joined ks ++ drop (k * size) a)) (sym e)
    ∙ records_joined size ks (drop (k * size) a) s

sized_snoc : (size : ℕ) (ks : List (List ℕ)) (r : List ℕ) → Sized size ks → length r ≡ size → Sized size (ks ++ (r ∷ []))
unfolding Sized
sized_snoc size [] r s e = (e, tt)
sized_snoc size (k ∷ ks) r s e = (s.0, sized_snoc size ks r s.1 e)

-- of no records none is kept
none_once : (size used : ℕ) (xs : List ℕ) → used ≡ 0 → once (records size used xs) ≡ []
unfolding once records
none_once size used xs e = rw e

pub kept_none : (size used : ℕ) (xs : List ℕ) → used ≡ 0 → Kept size used xs xs 0
unfolding joined
kept_none size used xs e = let o = none_once size used xs e in record { count = rw o; front = rw (o, zero-mul); beyond = refl }

-- the next record's id is the last one's, or another
same_next : (d : Id) (x : List ℕ) (rs : List (List ℕ)) → same d (id_of x) ≡ true → once_after d (x ∷ rs) ≡ once_after d rs
unfolding once_after
same_next d x rs e = rw e

other_next : (d : Id) (x : List ℕ) (rs : List (List ℕ)) → same d (id_of x) ≡ false → once_after d (x ∷ rs) ≡ x ∷ once_after (id_of x) rs
unfolding once_after
other_next d x rs e = rw e

-- record i is next, and k of those before it are kept
pub record Thinning (size used : ℕ) (xs a : List ℕ) (k i : ℕ) : Type 0 where
  pub i_le : i ≤ used
  pub k_le : k ≤ i
  pub some : 0 < k
  pub kept : List (List ℕ)
  pub sized : Sized size kept
  pub count : length kept ≡ k
  pub front : take (k * size) a ≡ joined kept
  pub back : drop (i * size) a ≡ drop (i * size) xs
  pub len : length a ≡ length xs
  pub rest : once (records size used xs) ≡ kept ++ once_after (id_of (get_or kept (k - 1) [])) (drop i (records size used xs))

module _ (size used : ℕ) (xs : List ℕ) (room : used * size ≤ length xs) where
  abbrev rs : List (List ℕ)
  rs = records size used xs

  first_kept : (n : ℕ) → used ≡ suc n → once rs ≡ records size 1 xs ++ once_after (id_of (get_or (records size 1 xs) 0 [])) (drop 1 rs)
  unfolding records once
  first_kept n e = rw e

  pub thinning_none : 0 < used → Thinning size used xs xs 1 1
  thinning_none h =
      let n : used ≡ suc (used - 1) = omega arith in
      let l : 1 * size ≤ length xs = omega (arith, record_end size used 0 h, zero-mul size) in
      record {
        i_le = omega arith;
        k_le = omega arith;
        some = omega arith;
        kept = records size 1 xs;
        sized = sized_records size 1 xs l;
        count = length_records size 1 xs;
        front = sym (joined_records size 1 xs);
        back = refl;
        len = refl;
        rest = first_kept (used - 1) n;
      }

  module _ (a b : List ℕ) (k i r : ℕ) (t : Thinning size used xs a k i) where
    -- the id that the next one is held against
    last_id : 32 ≤ size → id32 ((k - 1) * size) a ≡ id_of (get_or t.kept (k - 1) [])
    last_id h =
        sym (id_at size k (k - 1) a h (omega (arith, t.some)))
        ∙ ap (λ (ks : List (List ℕ)). id_of (get_or ks (k - 1) [])) (front_records size k t.kept a t.sized t.count t.front)

    pub thinning_more : 32 ≤ size → i < used → Moved (λ q. not (same (id32 ((k - 1) * size) a) (id_of q))) size k i a b r → length b ≡ length a → Thinning size used xs b r (i + 1)
    thinning_more z h m l = go (same d (id_of x)) refl (rw (ex, last_id z) at m.next) (rw (ex, last_id z) at m.front)
      where
        x : List ℕ
        x = get_or rs i []

        d : Id
        d = id_of (get_or t.kept (k - 1) [])

        ex : take size (drop (i * size) a) ≡ x
        ex = ap (take size) t.back ∙ sym (get_or_records size used i xs h)

        lx : length x ≡ size
        lx = sized_at size i rs (sized_records size used xs room) (rw length_records h)

        next : drop i rs ≡ x ∷ drop (i + 1) rs
        next = rw add-one (drop-cons rs i [] (rw length_records h))

        behind : drop ((i + 1) * size) b ≡ drop ((i + 1) * size) xs
        behind = rw next_part (m.back ∙ sym (drop-drop size (i * size) a) ∙ ap (drop size) t.back ∙ drop-drop size (i * size) xs)

        go : (s : Bool) → same d (id_of x) ≡ s → r ≡ cond (not s) (k + 1) k → take (r * size) b ≡ take (k * size) a ++ cond (not s) x [] → Thinning size used xs b r (i + 1)
        go true e n f =
            record {
              i_le = omega arith;
              k_le = omega (arith, t.k_le);
              some = omega (arith, t.some);
              kept = t.kept;
              sized = t.sized;
              count = t.count ∙ sym n;
              front = f ∙ append-nil _ ∙ t.front;
              back = behind;
              len = l ∙ t.len;
              rest = t.rest ∙ rw (next, same_next d x (drop (i + 1) rs) e, n);
            }
        go false e n f =
            let c : length (t.kept ++ (x ∷ [])) ≡ r = length-append t.kept (x ∷ []) ∙ omega (arith, t.count) in
            let q : r - 1 ≡ length t.kept = omega (arith, t.count) in
            let y : get_or (t.kept ++ (x ∷ [])) (r - 1) [] ≡ x = get_or_at t.kept x [] [] (r - 1) (sym q) in
            record {
              i_le = omega arith;
              k_le = omega (arith, t.k_le);
              some = omega arith;
              kept = t.kept ++ (x ∷ []);
              sized = sized_snoc size t.kept x t.sized lx;
              count = c;
              front = f ∙ rw t.front (sym (joined_snoc t.kept x));
              back = behind;
              len = l ∙ t.len;
              rest = t.rest ∙ rw (next, other_next d x (drop (i + 1) rs) e, y) (sym (append_assoc t.kept (x ∷ []) (once_after (id_of x) (drop (i + 1) rs))));
            }

    pub thinning_end : used ≤ i → Kept size used xs a k
    unfolding once_after
    thinning_end h =
        let e : i ≡ used = omega (arith, t.i_le) in
        let n : drop i rs ≡ [] = drop_of_length-le rs {i = i} (rw length_records h) in
        let o : once rs ≡ t.kept = t.rest ∙ rw n (append-nil t.kept) in
        record { count = sym t.count ∙ ap length (sym o); front = t.front ∙ ap joined (sym o); beyond = rw e at t.back }
