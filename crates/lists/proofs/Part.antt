-- A list worked through a part at a time.
-- Assumes nothing.
use mathlib.Core.Path.{◌≡◌, sym, ap, ◌∙◌}
use mathlib.Core.List.{List, ◌++◌, map, map-append}
use Prim.Native.Nat.{ℕ, ◌+◌, ◌*◌, ◌≤◌, ◌<◌}
use native.Mathlib.Nat.{suc-mul}
use native.Mathlib.Numerals.{add-one}
use native.Mathlib.Omega.{arith}
use lib.ListN.{length, take, drop, get_or, length-drop, length-map, take-append-drop, get_or-append}
use lib.Seq.{length-take-le, take-add, drop-drop, drop_at, take_at, take_all, get_or-take, get_or-drop, get_or-append-add, length-paste, length_paste_head}
use Rattle.lists.specs.Upto.{upto}
use Rattle.lists.specs.Part.{part, part_put}

pub next_part : (w b : ℕ) → (b + 1) * w ≡ b * w + w
next_part w b = rw (add-one, suc-mul)

module _ {A : Type 0} (w b : ℕ) (xs : List A) where
  pub length_part : b * w + w ≤ length xs → length (part w b xs) ≡ w
  length_part h = length-take-le w (drop (b * w) xs) (omega (arith, length-drop (b * w) xs))

  pub get_or_part : (i : ℕ) (z : A) → i < w → get_or (part w b xs) i z ≡ get_or xs (b * w + i) z
  get_or_part i z h = get_or-take w (drop (b * w) xs) i z h ∙ get_or-drop (b * w) xs i z

  -- a part put back where it stood changes nothing
  pub put_same : b * w + w ≤ length xs → part_put w b (part w b xs) xs ≡ xs
  put_same h =
      let k : take w (part w b xs) ≡ part w b xs = take_all w (part w b xs) (omega (arith, length_part h)) in
      rw (k, ← take-add (b * w) w xs) (take-append-drop (b * w + w) xs)

  front : (f : A → A) (n : ℕ) → n ≤ length xs → length (map f (take n xs)) ≡ n
  front f n h = length-map (take n xs) f ∙ length-take-le n xs h

  -- the next part is as it was
  part_ahead : (f : A → A) → b * w ≤ length xs → part w b (upto f (b * w) xs) ≡ part w b xs
  unfolding upto
  part_ahead f h = ap (take w) (drop_at (map f (take (b * w) xs)) (drop (b * w) xs) (b * w) (front f (b * w) h))

  -- and once f of it has been put back, one part more is done
  part_done : (f : A → A) → b * w + w ≤ length xs → part_put w b (map f (part w b xs)) (upto f (b * w) xs) ≡ upto f ((b + 1) * w) xs
  unfolding upto
  part_done f h =
      let n = b * w in
      let hd : List A = map f (take n xs) in
      let new : List A = map f (part w b xs) in
      let e : length hd ≡ n = front f n (omega arith) in
      let l : length new ≡ w = length-map (part w b xs) f ∙ length_part h in
      let t : take n (hd ++ drop n xs) ≡ hd = take_at hd (drop n xs) n e in
      let d : drop (n + w) (hd ++ drop n xs) ≡ drop (n + w) xs = sym (drop-drop w n (hd ++ drop n xs)) ∙ ap (drop w) (drop_at hd (drop n xs) n e) ∙ drop-drop w n xs in
      let k : take w new ≡ new = take_all w new (omega arith) in
      let j : map f (take (n + w) xs) ≡ hd ++ new = ap (map f) (take-add n w xs) ∙ map-append f (take n xs) (part w b xs) in
      rw (t, d, k, next_part, j)

  -- a turn: the part is taken out, worked out anew, and put back
  pub part_turn : (f : A → A) (ys row row' last : List A) → b * w + w ≤ length xs
      → ys ≡ upto f (b * w) xs → row ≡ part w b ys → row' ≡ map f row → last ≡ part_put w b row' ys → last ≡ upto f ((b + 1) * w) xs
  part_turn f ys row row' last h e r r' l =
      let k : row' ≡ map f (part w b xs) = r' ∙ ap (map f) (r ∙ ap (part w b) e ∙ part_ahead f (omega arith)) in
      l ∙ rw (k, e) (part_done f h)

  -- ---- the elements once a part has been put in

  module _ (row : List A) (z : A) (h : b * w + w ≤ length xs) (l : length row ≡ w) where
    head : length (take (b * w) xs) ≡ b * w
    head = length-take-le (b * w) xs (omega arith)

    both : length (take (b * w) xs ++ take w row) ≡ b * w + w
    both = length_paste_head xs (b * w) row w (omega arith) (omega arith)

    pub put_before : (k : ℕ) → k < b * w → get_or (part_put w b row xs) k z ≡ get_or xs k z
    put_before k g =
        get_or-append (take (b * w) xs ++ take w row) _ z k (omega (arith, both))
        ∙ get_or-append (take (b * w) xs) (take w row) z k (omega (arith, head))
        ∙ get_or-take (b * w) xs k z g

    pub put_in : (i : ℕ) → i < w → get_or (part_put w b row xs) (b * w + i) z ≡ get_or row i z
    put_in i g =
        get_or-append (take (b * w) xs ++ take w row) _ z (b * w + i) (omega (arith, both))
        ∙ ap (λ (n : ℕ). get_or (take (b * w) xs ++ take w row) (n + i) z) (sym head)
        ∙ get_or-append-add (take (b * w) xs) (take w row) i z
        ∙ get_or-take w row i z g

    pub put_after : (i : ℕ) → get_or (part_put w b row xs) (b * w + w + i) z ≡ get_or xs (b * w + w + i) z
    put_after i =
        ap (λ (n : ℕ). get_or (part_put w b row xs) (n + i) z) (sym both)
        ∙ get_or-append-add (take (b * w) xs ++ take w row) (drop (b * w + w) xs) i z
        ∙ get_or-drop (b * w + w) xs i z

    pub length_put : length (part_put w b row xs) ≡ length xs
    length_put = length-paste xs (b * w) row w h (omega arith)
