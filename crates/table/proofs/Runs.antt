-- The loop that keeps the records that pass a test, and drops the others: those between two that go move down as one run. Assumes nothing.
use mathlib.Core.Path.{◌≡◌, refl, sym, ap, ap₂, ◌∙◌}
use mathlib.Core.Bool.{Bool, true, false}
use mathlib.Core.List.{List, [], ◌∷◌, ◌++◌, append_assoc, append-nil}
use Prim.Native.Nat.{ℕ, ◌+◌, ◌-◌, ◌*◌, ◌≤◌, ◌<◌}
use native.Mathlib.Nat.{add-mul, mul-le-mul_right}
use native.Mathlib.Numerals.{add-one}
use native.Mathlib.Omega.{arith}
use lib.ListN.{length, take, drop, get_or, length-append, length-drop, take-append-drop}
use lib.Seq.{slice, slice_empty, length-slice, take-suc, take-add, take-paste, drop-paste, drop-drop, drop-append-le, length-take-le}
use Rattle.lists.proofs.Cut.{drop_take}
use Rattle.lists.proofs.Lists.{keep_append, keep_yes}
use Rattle.rules.specs.Lists.{keep}
use Rattle.rules.specs.Records.{records, joined, laid}
use Rattle.rules.proofs.Records.{length_records}
use Rattle.mem.specs.Moves.{shifted_down, zeroed}
use Rattle.ids.proofs.Records.{get_or_records}
use Rattle.table.proofs.Records.{joined_append, joined_drop, take_records}
use Rattle.table.proofs.Keeping.{Keeping, keeping_none, keeping_more, keeping_end, moved_goes}

-- records that stand where they belong
pub run_still : (size k from n : ℕ) (xs : List ℕ) → k ≡ from → xs ≡ shifted_down (k * size) (from * size - k * size) n xs
unfolding shifted_down
run_still size k from n xs e =
    let p : ℕ = k * size in
    let z : p + (from * size - p) ≡ p = (let s : p ≡ from * size = ap (λ (j : ℕ). j * size) e in omega arith) in
    sym (rw (z, ← take-add p n xs) (take-append-drop (p + n) xs))

module _ (stays : List ℕ → Bool) (size used : ℕ) (xs : List ℕ) where
  abbrev rs : List (List ℕ)
  rs = records size used xs

  -- those of the first i that stay
  abbrev staying : ℕ → List (List ℕ)
  staying i = keep stays (take i rs)

  -- k of the records before number `from` stay, and from there up to number i all do
  pub record Running (k from i : ℕ) (a : List ℕ) : Type 0 where
    pub so_far : Keeping stays size used k from a xs
    pub run : staying i ≡ staying from ++ slice from i rs
    pub from_le : from ≤ i
    pub i_le : i ≤ used

  pub running_none : Running 0 0 0 xs
  unfolding keep
  running_none = record { so_far = keeping_none stays size used xs; run = refl; from_le = omega arith; i_le = omega arith }

  module _ (room : used * size ≤ length xs) {k from i : ℕ} {a : List ℕ} (v : Running k from i a) where
    -- the record that is looked at is still where it was
    pub ahead : i < used → take size (drop (i * size) a) ≡ get_or rs i []
    ahead h =
        let q : ℕ = from * size in
        let t : ℕ = i * size in
        let qt : q ≤ t = mul-le-mul_right size v.from_le in
        let e : t ≡ q + (t - q) = omega arith in
        ap (take size) (ap (λ (j : ℕ). drop j a) e ∙ sym (drop-drop (t - q) q a) ∙ ap (drop (t - q)) v.so_far.back ∙ drop-drop (t - q) q xs ∙ ap (λ (j : ℕ). drop j xs) (sym e))
        ∙ sym (get_or_records size used i xs h)

    -- one more that stays
    pub running_on : i < used → stays (take size (drop (i * size) a)) ≡ true → Running k from (i + 1) a
    running_on h s =
        let one : List ℕ = get_or rs i [] in
        let many : i < length rs = omega (arith, length_records size used xs) in
        let longer : slice from (i + 1) rs ≡ slice from i rs ++ (one ∷ []) = rw add-one (ap (drop from) (take-suc rs i [] many) ∙ drop-append-le from (take i rs) (one ∷ []) (omega (arith, v.from_le, length-take-le i rs (omega arith)))) in
        let next : staying (i + 1) ≡ staying i ++ (one ∷ []) = rw add-one (ap (keep stays) (take-suc rs i [] many) ∙ keep_append stays (take i rs) (one ∷ []) ∙ ap (λ (l : List (List ℕ)). staying i ++ l) (keep_yes stays one (rw (ahead h) at s))) in
        record {
          so_far = v.so_far;
          run = next ∙ ap (λ (l : List (List ℕ)). l ++ (one ∷ [])) v.run ∙ append_assoc (staying from) (slice from i rs) (one ∷ []) ∙ ap (λ (l : List (List ℕ)). staying from ++ l) (sym longer);
          from_le = omega (arith, v.from_le);
          i_le = omega arith;
        }

    -- those up to number i have been moved down
    run_moved : (n : ℕ) (b : List ℕ) → n ≡ k + (i - from) → b ≡ shifted_down (k * size) (from * size - k * size) (i * size - from * size) a → length b ≡ length a → Keeping stays size used n i b xs
    unfolding shifted_down
    run_moved n b e d l =
        let p : ℕ = k * size in
        let q : ℕ = from * size in
        let t : ℕ = i * size in
        let w : ℕ = t - q in
        let g = v.so_far in
        let pq : p ≤ q = mul-le-mul_right size g.k_le in
        let qt : q ≤ t = mul-le-mul_right size v.from_le in
        let tu : t ≤ used * size = mul-le-mul_right size v.i_le in
        let gap : (i - from) * size ≡ w = (let s : i ≡ i - from + from = omega (arith, v.from_le) in omega (arith, ap (λ (j : ℕ). j * size) s, add-mul (i - from) from size)) in
        let wide : n * size ≡ p + w = ap (λ (j : ℕ). j * size) e ∙ add-mul k (i - from) size ∙ ap (λ (j : ℕ). p + j) gap in
        let pa : p ≤ length a = omega (arith, g.len) in
        let T : List ℕ = drop (p + (q - p)) a in
        let l_t : w ≤ length T = omega (arith, length-drop (p + (q - p)) a, g.len) in
        let e1 : p + (q - p) ≡ q = omega arith in
        let e2 : q + w ≡ t = omega arith in
        let e3 : t ≡ p + w + (q - p) = omega arith in
        let bytes_of : joined (slice from i rs) ≡ take w (drop q xs) =
        ap (λ (l : List (List ℕ)). joined (drop from l)) (take_records size i used xs v.i_le) ∙ joined_drop size from i xs v.from_le (omega arith)
        ∙ ap (λ (j : ℕ). drop q (take j xs)) (sym e2) ∙ drop_take q w xs (omega arith) in
        record {
          i_le = v.i_le;
          k_le = omega (arith, g.k_le, v.from_le);
          count = e ∙ sym (ap length v.run ∙ length-append (staying from) (slice from i rs) ∙ ap₂ (λ (x y : ℕ). x + y) (sym g.count) (length-slice from i rs (omega (arith, length_records size used xs, v.i_le))));
          front = ap₂ (λ (j : ℕ) (l : List ℕ). take j l) wide d ∙ take-paste a p T w pa l_t
              ∙ ap₂ (λ (f l : List ℕ). f ++ take w l) g.front (ap (λ (j : ℕ). drop j a) e1 ∙ g.back)
              ∙ sym (ap joined v.run ∙ joined_append (staying from) (slice from i rs) ∙ ap (λ (l : List ℕ). joined (staying from) ++ l) bytes_of);
          back = ap₂ (λ (j : ℕ) (l : List ℕ). drop j l) e3 d ∙ sym (drop-drop (q - p) (p + w) _) ∙ ap (drop (q - p)) (drop-paste a p T w pa l_t) ∙ drop-drop (q - p) (p + w) a
              ∙ ap (λ (j : ℕ). drop j a) (sym e3 ∙ sym e2) ∙ sym (drop-drop w q a) ∙ ap (drop w) g.back ∙ drop-drop w q xs ∙ ap (λ (j : ℕ). drop j xs) e2;
          len = l ∙ g.len;
        }

    -- and number i goes
    pub running_cut : (n : ℕ) (b : List ℕ) → n ≡ k + (i - from) → b ≡ shifted_down (k * size) (from * size - k * size) (i * size - from * size) a → length b ≡ length a
        → i < used → stays (take size (drop (i * size) a)) ≡ false → Running n (i + 1) (i + 1) b
    running_cut n b e d l h goes =
        let g = run_moved n b e d l in
        let same : take size (drop (i * size) b) ≡ take size (drop (i * size) a) = ap (take size) g.back ∙ sym (get_or_records size used i xs h) ∙ sym (ahead h) in
        record {
          so_far = keeping_more stays size used n i n b b xs h g (moved_goes stays size n i b (rw same goes)) refl;
          run = sym (ap (λ (r : List (List ℕ)). staying (i + 1) ++ r) (slice_empty (i + 1) rs) ∙ append-nil (staying (i + 1)));
          from_le = omega arith;
          i_le = omega arith;
        }

    -- where the loop has ended, the last have been moved down and the rest is zeroed
    pub running_end : i ≡ used → (n : ℕ) (b : List ℕ) → n ≡ k + (used - from) → b ≡ shifted_down (k * size) (from * size - k * size) (used * size - from * size) a → length b ≡ length a
        → (n ≡ length (keep stays rs)) × (zeroed (n * size) (used * size) b ≡ laid size used (keep stays rs) xs)
    running_end f n b e d l = keeping_end stays size used n b xs (rw f at (run_moved n b (rw f e) (rw f d) l))
