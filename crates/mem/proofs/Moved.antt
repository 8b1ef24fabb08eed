-- What is left where a part of a list is moved, copied in, or zeroed. Assumes nothing.
use mathlib.Core.Path.{◌≡◌, refl, sym, ap, ◌∙◌}
use mathlib.Core.List.{List, [], ◌∷◌, ◌++◌, append_assoc, append-nil}
use Prim.Native.Nat.{ℕ, suc, ◌+◌, ◌-◌, ◌≤◌, ◌<◌}
use native.Mathlib.Nat.{suc-add}
use native.Mathlib.Numerals.{add-one}
use native.Mathlib.Omega.{arith}
use lib.ListN.{length, take, drop, get_or, set, replicate, length-append, length-take, length-drop, length-replicate, take-append-drop, get_or-append}
use lib.Seq.{slice, slice_empty, slice-cons, take-suc, set_at, get_or-take, get_or-drop, get_or-append-add, paste-zero, paste-suc, length_paste_head, length-take-le, sets, sets-eq, take-length, take_all}
use borrow.Rule.Slice.PartMut.{put_mid}
use Rattle.std.proofs.lemmas.Slice.{put_mid-paste}
use Rattle.mem.specs.Moves.{shifted_up, shifted_down, zeroed}

-- ---- up

pub up_none : (to by : ℕ) (xs : List ℕ) → xs ≡ shifted_up to to by xs
unfolding shifted_up
up_none to by xs = rw (slice_empty, append-nil, take-append-drop)

up_suc : (i to by : ℕ) (xs : List ℕ) → i < to → to + by ≤ length xs
    → set (shifted_up (suc i) to by xs) (i + by) (get_or (shifted_up (suc i) to by xs) i 0) ≡ shifted_up i to by xs
unfolding shifted_up
up_suc i to by xs h k =
    let v : ℕ = get_or xs i 0 in
    let y : ℕ = get_or xs (i + by) 0 in
    let S : List ℕ = slice (suc i) to xs in
    let D : List ℕ = drop (to + by) xs in
    let P : List ℕ = take (i + by) xs in
    let F : List ℕ = take (suc i + by) xs in
    let l_f : length F ≡ suc i + by = length-take-le (suc i + by) xs (omega arith) in
    let e1 : F ≡ P ++ (y ∷ []) = ap (λ (n : ℕ). take n xs) (suc-add i by) ∙ take-suc xs (i + by) 0 (omega arith) in
    let e2 : get_or (F ++ S ++ D) i 0 ≡ v =
    get_or-append (F ++ S) D 0 i (rw length-append (omega arith)) ∙ get_or-append F S 0 i (omega arith) ∙ get_or-take (suc i + by) xs i 0 (omega arith) in
    let e3 : P ++ (y ∷ []) ++ S ++ D ≡ P ++ (y ∷ (S ++ D)) = simp append_assoc in
    ap (λ (w : ℕ). set (F ++ S ++ D) (i + by) w) e2
    ∙ ap (λ (p : List ℕ). set (p ++ S ++ D) (i + by) v) e1
    ∙ ap (λ (l : List ℕ). set l (i + by) v) e3
    ∙ set_at P y (S ++ D) v (i + by) (length-take-le (i + by) xs (omega arith))
    ∙ sym (append_assoc P (v ∷ S) D)
    ∙ ap (λ (l : List ℕ). P ++ l ++ D) (sym (slice-cons i to xs 0 h (omega arith)))

-- a turn of the loop that moves bytes up
pub up_more : (i to by : ℕ) (xs : List ℕ) → i < to → to + by ≤ length xs
    → set (shifted_up (i + 1) to by xs) (i + by) (get_or (shifted_up (i + 1) to by xs) i 0) ≡ shifted_up i to by xs
up_more i to by xs h k = rw add-one (up_suc i to by xs h k)

-- ---- down

pub down_none : (from by : ℕ) (xs : List ℕ) → xs ≡ shifted_down from by 0 xs
unfolding shifted_down
down_none from by xs = paste-zero xs from (drop (from + by) xs)

-- a turn of the loop that moves bytes down
pub down_more : (from by i : ℕ) (xs : List ℕ) → from + by + i < length xs
    → set (shifted_down from by i xs) (from + i) (get_or (shifted_down from by i xs) (from + by + i) 0) ≡ shifted_down from by (i + 1) xs
unfolding shifted_down
down_more from by i xs h =
    let s : List ℕ = drop (from + by) xs in
    let p : List ℕ = take from xs ++ take i s in
    let q : List ℕ = drop (from + i) xs in
    let ls : length s ≡ length xs - (from + by) = length-drop (from + by) xs in
    let lp : length p ≡ from + i = length_paste_head xs from s i (omega arith) (omega arith) in
    let e : get_or (p ++ q) (from + by + i) 0 ≡ get_or s i 0 =
    ap (λ (n : ℕ). get_or (p ++ q) n 0) (omega arith) ∙ get_or-append-add p q by 0 ∙ get_or-drop (from + i) xs by 0
    ∙ ap (λ (n : ℕ). get_or xs n 0) (omega arith) ∙ sym (get_or-drop (from + by) xs i 0) in
    ap (λ (w : ℕ). set (p ++ q) (from + i) w) e ∙ rw add-one (paste-suc xs from s i 0 (omega arith) (omega arith))

-- ---- copied in, and zeroed

pub put_sets : (at k : ℕ) (xs ys vs : List ℕ) → ys ≡ vs → k ≡ length vs → at + k ≤ length xs → put_mid at k xs ys ≡ sets xs at vs
put_sets at k xs ys vs e n h =
    put_mid-paste at k xs ys vs (length vs) e (sym n) refl ∙ rw take-length (sym (sets-eq vs xs at (omega arith)))

pub put_zeros : (from to : ℕ) (xs ys : List ℕ) → from ≤ to → to ≤ length xs → ys ≡ replicate (length (take (to - from) (drop from xs))) 0 → put_mid from (to - from) xs ys ≡ zeroed from to xs
unfolding zeroed
put_zeros from to xs ys h k e =
    let n : length (take (to - from) (drop from xs)) ≡ to - from = simp (length-take, length-drop) (omega arith) in
    let t : from + (to - from) ≡ to = omega arith in
    let zeros : List ℕ = replicate (to - from) 0 in
    let l : length zeros ≡ to - from = length-replicate (to - from) 0 in
    put_mid-paste from (to - from) xs ys zeros (to - from) (e ∙ ap (λ (i : ℕ). replicate i 0) n) refl (sym l) ∙ rw (t, take_all (to - from) zeros (omega arith))
