-- Four and eight bytes at a time: as a number with the first byte the highest, they have the order of the bytes. So the first words of two ids that differ decide.
-- Assumes nothing.
use mathlib.Core.Path.{◌≡◌, refl, sym, ap, ◌∙◌}
use Prim.Native.Nat.{ℕ, ◌+◌, ◌*◌, ◌≤◌, ◌<◌}
use native.Mathlib.Omega.{arith}
use mathlib.Core.Bool.{Bool, true, false, cond}
use mathlib.Core.List.{List}
use lib.Dec.{ltb}
use lib.ListN.{length, get_or, drop}
use borrow.Author.Tests.{ltb-true, ltb-false, lt-ltb, le-ltb}
use Rattle.rules.specs.Ids.{below}
use Rattle.std.specs.Ordering.{is_lt}
use Rattle.mem.specs.Be.{be_at}
use Rattle.mem.proofs.Laws.{be_at_4}
use Rattle.std.specs.declared.cmp.Ordering.{Ordering}
use Rattle.std.specs.declared.cmp.Ordering.TheVariants.{Less, Greater}
use Rattle.ids.specs.Search.{cmp}
use Rattle.ids.specs.Words.{two_words}
use Rattle.ids.proofs.Ids.{Below, id32, cmp_turn, cmp_below, below_cmp_is}

-- two numbers decide, or the rest
abbrev pub step : ℕ → ℕ → Ordering → Ordering
step x y r = cond (ltb x y) Less (cond (ltb y x) Greater r)

module _ (x y : ℕ) (r : Ordering) where
  less : x < y → step x y r ≡ Less
  less h = rw (lt-ltb x y h)

  more : y < x → step x y r ≡ Greater
  more h = (let k : y ≤ x = omega arith in rw (le-ltb x y k, lt-ltb y x h))

  alike : x ≡ y → step x y r ≡ r
  alike h = rw (le-ltb x y (omega (arith, h)), le-ltb y x (omega (arith, h)))

  less_or : x ≤ y → (x ≡ y → r ≡ Less) → step x y r ≡ Less
  less_or h k = go (ltb x y) refl
    where
      go : (t : Bool) → ltb x y ≡ t → step x y r ≡ Less
      go true e = less (ltb-true x y e)
      go false e = (let s : x ≡ y = omega (arith, h, ltb-false x y e) in alike s ∙ k s)

  more_or : y ≤ x → (x ≡ y → r ≡ Greater) → step x y r ≡ Greater
  more_or h k = go (ltb y x) refl
    where
      go : (t : Bool) → ltb y x ≡ t → step x y r ≡ Greater
      go true e = more (ltb-true y x e)
      go false e = (let s : x ≡ y = omega (arith, h, ltb-false y x e) in alike s ∙ k s)

-- bytes a to d against bytes w to z: one step of numbers is four of bytes
module _ (a b c d w x y z : ℕ) (B : b < 256) (C : c < 256) (D : d < 256) (X : x < 256) (Y : y < 256) (Z : z < 256) (r : Ordering) where
  abbrev m : ℕ
  m = d + 256 * (c + 256 * (b + 256 * a))

  abbrev n : ℕ
  n = z + 256 * (y + 256 * (x + 256 * w))

  abbrev four : Ordering
  four = step a w (step b x (step c y (step d z r)))

  four_less : m < n → four ≡ Less
  four_less h =
      less_or a w _ (omega arith) (λ e.
      less_or b x _ (omega (arith, e)) (λ f.
      less_or c y _ (omega (arith, e, f)) (λ g.
      less d z r (omega (arith, e, f, g)))))

  four_more : n < m → four ≡ Greater
  four_more h =
      more_or a w _ (omega arith) (λ e.
      more_or b x _ (omega (arith, e)) (λ f.
      more_or c y _ (omega (arith, e, f)) (λ g.
      more d z r (omega (arith, e, f, g)))))

  four_alike : m ≡ n → four ≡ r
  four_alike h =
      let e : a ≡ w = omega arith in
      let f : b ≡ x = omega arith in
      let g : c ≡ y = omega arith in
      let k : d ≡ z = omega arith in
      alike a w _ e ∙ alike b x _ f ∙ alike c y _ g ∙ alike d z r k

  four_bytes : four ≡ step m n r
  four_bytes = go (ltb m n) (ltb n m) refl refl
    where
      go : (s t : Bool) → ltb m n ≡ s → ltb n m ≡ t → four ≡ cond s Less (cond t Greater r)
      go true t e f = four_less (ltb-true m n e)
      go false true e f = four_more (ltb-true n m f)
      go false false e f = four_alike (omega (arith, ltb-false m n e, ltb-false n m f))

-- a word of bytes is a number of 32 bits
word_bound : (s : List ℕ) → ((i : ℕ) → get_or s i 0 < 256) → (at : ℕ) → be_at 4 s at < 4294967296
word_bound s f at = rw (be_at_4 s at) (omega (arith, f at, f (at + 1), f (at + 2), f (at + 3)))

-- a higher and a lower word against two others: one step of both is two of words
module _ (h l i k : ℕ) (L : l < 4294967296) (K : k < 4294967296) (r : Ordering) where
  abbrev d : ℕ
  d = two_words h l

  abbrev e : ℕ
  e = two_words i k

  both_words : step h i (step l k r) ≡ step d e r
  both_words = go (ltb d e) (ltb e d) refl refl
    where
      go : (s t : Bool) → ltb d e ≡ s → ltb e d ≡ t → step h i (step l k r) ≡ cond s Less (cond t Greater r)
      go true t f g = (let m : d < e = ltb-true d e f in less_or h i _ (omega arith) (λ o. less l k r (omega (arith, o))))
      go false true f g = (let m : e < d = ltb-true e d g in more_or h i _ (omega arith) (λ o. more l k r (omega (arith, o))))
      go false false f g =
          let m : d ≡ e = omega (arith, ltb-false d e f, ltb-false e d g) in
          let o : h ≡ i = omega arith in
          alike h i _ o ∙ alike l k r (omega (arith, o))

-- of two ids in tables: the words that the code reads
module _ (a : List ℕ) (p : ℕ) (b : List ℕ) (q : ℕ) (ha : p + 32 ≤ length a) (hb : q + 32 ≤ length b) (fa : (i : ℕ) → get_or a i 0 < 256) (fb : (i : ℕ) → get_or b i 0 < 256) where
  -- what is left to compare
  abbrev left : ℕ → Ordering
  left i = cmp (drop i (id32 p a)) (drop i (id32 q b))

  -- `cmp_turn` with the places under any names
  byte : (i j k l : ℕ) → k ≡ p + i → l ≡ q + i → j ≡ i + 1 → i < 32 → left i ≡ step (get_or a k 0) (get_or b l 0) (left j)
  byte i j k l d e f h = cmp_turn a p b q i ha hb h ∙ ap (λ (o : Ordering). step (get_or a (p + i) 0) (get_or b (q + i) 0) o) (ap left (sym f)) ∙ ap (λ (n : ℕ). step (get_or a n 0) (get_or b (q + i) 0) (left j)) (sym d) ∙ ap (λ (n : ℕ). step (get_or a k 0) (get_or b n 0) (left j)) (sym e)

  -- one word of each
  pub word_turn : (i : ℕ) → i + 4 ≤ 32 → left i ≡ step (be_at 4 a (p + i)) (be_at 4 b (q + i)) (left (i + 4))
  word_turn i h =
      let one = byte i (i + 1) (p + i) (q + i) refl refl refl (omega arith) in
      let two = byte (i + 1) (i + 2) (p + i + 1) (q + i + 1) (omega arith) (omega arith) (omega arith) (omega arith) in
      let three = byte (i + 2) (i + 3) (p + i + 2) (q + i + 2) (omega arith) (omega arith) (omega arith) (omega arith) in
      let last = byte (i + 3) (i + 4) (p + i + 3) (q + i + 3) (omega arith) (omega arith) (omega arith) (omega arith) in
      rw (be_at_4 a (p + i), be_at_4 b (q + i), one, two, three, last)
      (four_bytes (get_or a (p + i) 0) (get_or a (p + i + 1) 0) (get_or a (p + i + 2) 0) (get_or a (p + i + 3) 0) (get_or b (q + i) 0) (get_or b (q + i + 1) 0) (get_or b (q + i + 2) 0) (get_or b (q + i + 3) 0)
      (fa (p + i + 1)) (fa (p + i + 2)) (fa (p + i + 3)) (fb (q + i + 1)) (fb (q + i + 2)) (fb (q + i + 3)) (left (i + 4)))

  -- a turn of the loop that compares: two words
  pub double_turn : (i : ℕ) → i + 8 ≤ 32 → left i ≡ step (two_words (be_at 4 a (p + i)) (be_at 4 a (p + i + 4))) (two_words (be_at 4 b (q + i)) (be_at 4 b (q + i + 4))) (left (i + 8))
  double_turn i h =
      let e : p + (i + 4) ≡ p + i + 4 = omega arith in
      let f : q + (i + 4) ≡ q + i + 4 = omega arith in
      let g : i + 4 + 4 ≡ i + 8 = omega arith in
      let one = word_turn i (omega arith) in
      let two = rw (e, f, g) at (word_turn (i + 4) (omega arith)) in
      one ∙ ap (step (be_at 4 a (p + i)) (be_at 4 b (q + i))) two
      ∙ both_words (be_at 4 a (p + i)) (be_at 4 a (p + i + 4)) (be_at 4 b (q + i)) (be_at 4 b (q + i + 4)) (word_bound a fa (p + i + 4)) (word_bound b fb (q + i + 4)) (left (i + 8))

  -- the first words decide where they differ
  pub words_below : be_at 4 a p < be_at 4 b q → Below (id32 p a) (id32 q b)
  words_below h =
      let e : p + 0 ≡ p = omega arith in
      let f : q + 0 ≡ q = omega arith in
      let k : be_at 4 a (p + 0) < be_at 4 b (q + 0) = rw (e, f) h in
      cmp_below (id32 p a) (id32 q b) (word_turn 0 (omega arith) ∙ less (be_at 4 a (p + 0)) (be_at 4 b (q + 0)) (left 4) k)

  -- where they differ, that of the lower id is the lower
  pub words_tell : (be_at 4 a p ≡ be_at 4 b q → ⊥) → ltb (be_at 4 a p) (be_at 4 b q) ≡ below (id32 p a) (id32 q b)
  words_tell n = go (ltb (be_at 4 a p) (be_at 4 b q)) refl
    where
      go : (t : Bool) → ltb (be_at 4 a p) (be_at 4 b q) ≡ t → t ≡ below (id32 p a) (id32 q b)
      go true h = sym (words_below (ltb-true _ _ h))
      go false h =
          let e : p + 0 ≡ p = omega arith in
          let f : q + 0 ≡ q = omega arith in
          let k : be_at 4 b (q + 0) < be_at 4 a (p + 0) = rw (e, f) (omega (arith, n, ltb-false _ _ h)) in
          sym (below_cmp_is (id32 p a) (id32 q b) ∙ ap is_lt (word_turn 0 (omega arith) ∙ more (be_at 4 a (p + 0)) (be_at 4 b (q + 0)) (left 4) k))
