-- The order of ids as the code finds it out, byte by byte: the first bytes that differ decide, so `cmp` is the rules' `below`, seen from both sides. Assumes nothing.
use mathlib.Core.Path.{◌≡◌, refl, sym, ap, ◌∙◌}
use mathlib.Core.Bool.{Bool, true, false, cond, ◌&&◌, ◌||◌}
use mathlib.Core.List.{List, [], ◌∷◌}
use Prim.Native.Nat.{ℕ, suc, ◌+◌, ◌≤◌, ◌<◌}
use native.Mathlib.Numerals.{add-one}
use native.Mathlib.Omega.{arith}
use lib.Dec.{ltb, eqb}
use lib.ListN.{length, take, drop, get_or, length-take, length-drop, drop_of_length-le}
use lib.Seq.{drop-cons, get_or-take, get_or-drop}
use borrow.Author.Tests.{ltb-true, ltb-false, eq-eqb, ne_eqb}
use Rattle.rules.specs.Ids.{Id, below}
use Rattle.ids.specs.Search.{cmp}
use Rattle.std.specs.Ordering.{is_lt}
use Rattle.std.specs.declared.cmp.Ordering.{Ordering}
use Rattle.std.specs.declared.cmp.Ordering.TheVariants.{Less, Equal, Greater}

-- a is below b
abbrev pub Below : Id → Id → Type 0
Below a b = below a b ≡ true

-- ---- the comparison and the rules' test

module _ (x y : ℕ) where
  above_differ : ltb y x ≡ true → eqb x y ≡ false
  above_differ e = ne_eqb x y (λ q. omega (arith, ltb-true y x e))

  alike : ltb x y ≡ false → ltb y x ≡ false → x ≡ y
  alike e f = omega (arith, ltb-false x y e, ltb-false y x f)

pub below_cmp_is : (a b : Id) → below a b ≡ is_lt (cmp a b)
unfolding below cmp
below_cmp_is [] [] = refl
below_cmp_is [] (y ∷ b) = refl
below_cmp_is (x ∷ a) [] = refl
below_cmp_is (x ∷ a) (y ∷ b) = go (ltb x y) (ltb y x) refl refl (below_cmp_is a b)
  where
    go : (s t : Bool) → ltb x y ≡ s → ltb y x ≡ t → below a b ≡ is_lt (cmp a b) → (s || (eqb x y && below a b)) ≡ is_lt (cond s Less (cond t Greater (cmp a b)))
    go true t e f h = refl
    go false true e f h = rw (above_differ x y f)
    go false false e f h = rw (eq-eqb x y (alike x y e f)) h

-- an order, seen from the other id
abbrev turned : Ordering → Ordering
turned Less = Greater
turned Equal = Equal
turned Greater = Less

cmp_turned : (a b : Id) → cmp a b ≡ turned (cmp b a)
unfolding cmp
cmp_turned [] [] = refl
cmp_turned [] (y ∷ b) = refl
cmp_turned (x ∷ a) [] = refl
cmp_turned (x ∷ a) (y ∷ b) = go (ltb x y) (ltb y x) refl refl (cmp_turned a b)
  where
    go : (s t : Bool) → ltb x y ≡ s → ltb y x ≡ t → cmp a b ≡ turned (cmp b a) → cond s Less (cond t Greater (cmp a b)) ≡ turned (cond t Less (cond s Greater (cmp b a)))
    go true true e f h = absurd (omega (arith, ltb-true x y e, ltb-true y x f))
    go true false e f h = refl
    go false true e f h = refl
    go false false e f h = h

pub cmp_equal : (a b : Id) → cmp a b ≡ Equal → a ≡ b
unfolding cmp
cmp_equal [] [] q = refl
cmp_equal [] (y ∷ b) q = let z : ◌≡◌ {A = ℕ} 0 1 = cc in absurd (omega arith)
cmp_equal (x ∷ a) [] q = let z : ◌≡◌ {A = ℕ} 0 1 = cc in absurd (omega arith)
cmp_equal (x ∷ a) (y ∷ b) q = go (ltb x y) (ltb y x) refl refl q (cmp_equal a b)
  where
    go : (s t : Bool) → ltb x y ≡ s → ltb y x ≡ t → cond s Less (cond t Greater (cmp a b)) ≡ Equal → (cmp a b ≡ Equal → a ≡ b) → ◌≡◌ {A = Id} (x ∷ a) (y ∷ b)
    go true t e f q h = let z : ◌≡◌ {A = ℕ} 0 1 = cc in absurd (omega arith)
    go false true e f q h = let z : ◌≡◌ {A = ℕ} 0 1 = cc in absurd (omega arith)
    go false false e f q h = let p = alike x y e f in let r = h q in cc

pub cmp_refl : (a : Id) → cmp a a ≡ Equal
cmp_refl a = go (cmp a a) (cmp_turned a a)
  where
    go : (o : Ordering) → o ≡ turned o → o ≡ Equal
    go Less e = let z : ◌≡◌ {A = ℕ} 0 1 = cc in absurd (omega arith)
    go Equal e = refl
    go Greater e = let z : ◌≡◌ {A = ℕ} 0 1 = cc in absurd (omega arith)

-- ---- what one tells of the other

module _ (a b : Id) where
  pub below_cmp : Below a b → cmp a b ≡ Less
  below_cmp h = go (cmp a b) (sym (below_cmp_is a b) ∙ h)
    where
      go : (o : Ordering) → is_lt o ≡ true → o ≡ Less
      go Less e = refl
      go Equal e = let z : ◌≡◌ {A = ℕ} 0 1 = cc in absurd (omega arith)
      go Greater e = let z : ◌≡◌ {A = ℕ} 0 1 = cc in absurd (omega arith)

  pub cmp_below : cmp a b ≡ Less → Below a b
  cmp_below e = below_cmp_is a b ∙ ap is_lt e

pub below_turned : (a b : Id) → Below b a → cmp a b ≡ Greater
below_turned a b h = cmp_turned a b ∙ ap turned (below_cmp b a h)

pub cmp_above : (a b : Id) → cmp a b ≡ Greater → Below b a
cmp_above a b e = cmp_below b a (cmp_turned b a ∙ ap turned e)

-- ---- the loop that compares

-- the 32 bytes at p
abbrev pub id32 : ℕ → List ℕ → List ℕ
id32 p a = take 32 (drop p a)

length_id32 : (p : ℕ) (a : List ℕ) → p + 32 ≤ length a → length (id32 p a) ≡ 32
length_id32 p a h = simp (length-take, length-drop) (omega arith)

get_or_id32 : (p i : ℕ) (a : List ℕ) → i < 32 → get_or (id32 p a) i 0 ≡ get_or a (p + i) 0
get_or_id32 p i a h = get_or-take 32 (drop p a) i 0 h ∙ get_or-drop p a i 0

cmp_drop : (A B : List ℕ) (i : ℕ) → i < length A → i < length B
    → cmp (drop i A) (drop i B) ≡ cond (ltb (get_or A i 0) (get_or B i 0)) Less (cond (ltb (get_or B i 0) (get_or A i 0)) Greater (cmp (drop (suc i) A) (drop (suc i) B)))
unfolding cmp
cmp_drop A B i h k = rw (drop-cons A i 0 h, drop-cons B i 0 k)

-- a turn of the loop that compares
pub cmp_turn : (a : List ℕ) (p : ℕ) (b : List ℕ) (q i : ℕ) → p + 32 ≤ length a → q + 32 ≤ length b → i < 32
    → cmp (drop i (id32 p a)) (drop i (id32 q b)) ≡ cond (ltb (get_or a (p + i) 0) (get_or b (q + i) 0)) Less (cond (ltb (get_or b (q + i) 0) (get_or a (p + i) 0)) Greater (cmp (drop (i + 1) (id32 p a)) (drop (i + 1) (id32 q b))))
cmp_turn a p b q i ha hb hi =
    rw (add-one, ← get_or_id32 p i a hi, ← get_or_id32 q i b hi)
    (cmp_drop (id32 p a) (id32 q b) i (rw (length_id32 p a ha) hi) (rw (length_id32 q b hb) hi))

-- where the loop that compares ends
pub cmp_end : (a : List ℕ) (p : ℕ) (b : List ℕ) (q : ℕ) → p + 32 ≤ length a → q + 32 ≤ length b → cmp (drop 32 (id32 p a)) (drop 32 (id32 q b)) ≡ Equal
unfolding cmp
cmp_end a p b q ha hb = rw (drop_of_length-le (id32 p a) {i = 32} (omega (arith, length_id32 p a ha)), drop_of_length-le (id32 q b) {i = 32} (omega (arith, length_id32 q b hb)))
