-- Laws of pairs of hexadecimal digits: the byte at i is said by the digits at 2 * i and 2 * i + 1.
-- Assumes nothing.
use mathlib.Core.Path.{◌≡◌, refl, sym, ap, ◌∙◌}
use mathlib.Core.Bool.{Bool, true, false, ◌&&◌}
use mathlib.Core.List.{List, [], ◌∷◌, ◌++◌}
use Prim.Native.Nat.{ℕ, zero, suc, ◌+◌, ◌*◌, ◌-◌, ◌/◌, ◌%◌, ◌≤◌, ◌<◌}
use native.Mathlib.Nat.{not-suc-le-zero, le_of_suc-le-suc}
use native.Mathlib.Omega.{arith}
use borrow.Author.Tests.{leb-true, le-leb, lt-leb, eq-eqb, ne_eqb}
use lib.Dec.{leb, eqb}
use lib.ListN.{length, get_or, drop, replicate, length-replicate, replicate-append-replicate}
use lib.Seq.{drop_at}
use Rattle.std.specs.Prelude.{Option, Some, None, is_some}
use Rattle.std.specs.List.{list_all}
use Rattle.rules.proofs.Records.{and_left, and_right}
use Rattle.script.proofs.Reading.{and_false}
use Rattle.script.specs.Digits.{digit, digit_of}
use Rattle.script.specs.Hex.{is_hex, hex_bytes, Filled, filled, hex_into, is_id, id_bytes, id_of}

pub length_hex : (w : List ℕ) → length (hex_bytes w) ≡ length w / 2
unfolding hex_bytes
length_hex [] = refl
length_hex (x ∷ []) = refl
length_hex (x ∷ y ∷ w) = let e = length_hex w in omega arith

pub hex_at : (w : List ℕ) (i : ℕ) → 2 * i + 1 < length w → get_or (hex_bytes w) i 0 ≡ digit (get_or w (2 * i) 0) * 16 + digit (get_or w (2 * i + 1) 0)
unfolding hex_bytes
hex_at [] i h = absurd (not-suc-le-zero h)
hex_at (x ∷ []) i h = absurd (omega arith)
hex_at (x ∷ y ∷ w) zero h = refl
hex_at (x ∷ y ∷ w) (suc i) h =
    let a : 2 * suc i ≡ suc (suc (2 * i)) = omega arith in
    let b : 2 * suc i + 1 ≡ suc (suc (2 * i + 1)) = omega arith in
    hex_at w i (omega arith) ∙ rw (b, a)

list_all_at : (p : ℕ → Bool) (xs : List ℕ) (i : ℕ) → i < length xs → list_all p xs ≡ true → p (get_or xs i 0) ≡ true
list_all_at p [] i h a = absurd (not-suc-le-zero h)
list_all_at p (x ∷ xs) zero h a = and_left (p x) (list_all p xs) a
list_all_at p (x ∷ xs) (suc i) h a = list_all_at p xs i (le_of_suc-le-suc h) (and_right (p x) (list_all p xs) a)

-- each digit of pairs of digits is one
pub hex_digit : (w : List ℕ) (i : ℕ) → is_hex w ≡ true → i < length w → is_some (digit_of (get_or w i 0)) ≡ true
unfolding is_hex
hex_digit w i h k = list_all_at (λ x. is_some (digit_of x)) w i k (and_right (eqb (length w % 2) 0) (list_all (λ x. is_some (digit_of x)) w) h)

-- ---- hex_into, by its tests

pub into_short : (w out : List ℕ) → length out < length w / 2 → hex_into w out ≡ filled None out
unfolding hex_into
into_short w out h = simp (lt-leb _ _ h)

pub into_bad : (w out : List ℕ) → is_hex w ≡ false → hex_into w out ≡ filled None out
unfolding hex_into
into_bad w out h = simp (h, and_false)

pub into_yes : (w out : List ℕ) → length w / 2 ≤ length out → is_hex w ≡ true
    → hex_into w out ≡ filled (Some (length w / 2)) (hex_bytes w ++ drop (length w / 2) out)
unfolding hex_into
into_yes w out h k = simp (le-leb _ _ h, k)

-- ---- ids

zeros : ℕ → List ℕ
zeros n = replicate n 0

drop_zeros : (n m : ℕ) → n ≤ m → drop n (zeros m) ≡ zeros (m - n)
unfolding zeros
drop_zeros n m h =
    let e : n + (m - n) ≡ m = omega arith in
    ap (λ (k : ℕ). drop {A = ℕ} n (replicate k 0)) (sym e) ∙ ap (drop {A = ℕ} n) (sym (replicate-append-replicate n (m - n) 0))
    ∙ drop_at {A = ℕ} (replicate n 0) (replicate (m - n) 0) n (length-replicate n 0)

pub no_word : (w : List ℕ) → length w ≡ 0 → ◌≡◌ {A = Option (List ℕ)} None (id_of w)
unfolding is_id
no_word w h = simp (eq-eqb _ _ h)

-- an id is what `hex_into` finds in a word that is not empty
module _ (w : List ℕ) (some : length w ≡ 0 → ⊥) where
  fit : Bool
  fit = leb (length w / 2) 32 && is_hex w

  yes : fit ≡ true → (id_of w ≡ Some (id_bytes w)) × (hex_into w (replicate 32 0) ≡ filled (Some (length w / 2)) (id_bytes w))
  unfolding is_id id_bytes hex_into fit zeros
  yes e =
      let n = leb-true (length w / 2) 32 (and_left (leb (length w / 2) 32) (is_hex w) e) in
      (simp (ne_eqb _ _ some, e), simp (ne_eqb _ _ some, e) (ap (λ (z : List ℕ). filled (Some (length w / 2)) (hex_bytes w ++ z)) (drop_zeros (length w / 2) 32 n)))

  no : fit ≡ false → (id_of w ≡ None) × (hex_into w (replicate 32 0) ≡ filled None (replicate 32 0))
  unfolding is_id hex_into fit
  no e = (simp (ne_eqb _ _ some, e), simp e)

  pub found : (n : ℕ) (bytes : List ℕ) → filled (Some n) bytes ≡ hex_into w (replicate 32 0) → Some bytes ≡ id_of w
  found n bytes h = go fit refl
    where
      go : (t : Bool) → fit ≡ t → Some bytes ≡ id_of w
      go true e = let b : bytes ≡ id_bytes w = ap (λ (f : Filled). f.bytes) (h ∙ (yes e).1) in ap Some b ∙ sym (yes e).0
      go false e = let a : Some n ≡ None = ap (λ (f : Filled). f.answer) (h ∙ (no e).1) in cc

  pub refused : (bytes : List ℕ) → filled None bytes ≡ hex_into w (replicate 32 0) → None ≡ id_of w
  refused bytes h = go fit refl
    where
      go : (t : Bool) → fit ≡ t → None ≡ id_of w
      go true e = let a : None ≡ Some (length w / 2) = ap (λ (f : Filled). f.answer) (h ∙ (yes e).1) in cc
      go false e = sym (no e).0
