-- Two lists of bytes are the same exactly when their numbers are. No contract cites this file. Assumes nothing.
use mathlib.Core.Path.{◌≡◌, refl, sym, ap, ◌∙◌}
use mathlib.Core.List.{List, [], ◌∷◌}
use mathlib.Core.Bool.{Bool, true, false, ◌&&◌}
use Prim.Native.Nat.{ℕ, zero, suc, ◌+◌, ◌*◌, ◌%◌, ◌/◌, ◌^◌, ◌≤◌, ◌<◌}
use native.Mathlib.Omega.{arith}
use borrow.Author.Tests.{eq-eqb, ne_eqb, eqb-true, eqb-false}
use lib.Dec.{T, eqb, ltb, ltb→lt, lt→ltb, lit<}
use lib.Ieee.Fits.{and_i, and_l, and_r}
use lib.Pow.{are_bytes}
use lib.ListN.{length, take, drop, length-drop}
use lib.Seq.{length-take-le}
use Rattle.rules.specs.Bytes.{le, bytes}
use Rattle.rules.proofs.Bytes.{length_bytes, le_bytes, bytes_take, bytes_drop}
use Rattle.mem.specs.Le.{le_at}
use Rattle.rules.specs.Ids.{same}
use Rattle.format.specs.File.{magic}

digits : (a b A B : ℕ) → a < 256 → b < 256 → eqb (a + 256 * A) (b + 256 * B) ≡ (eqb a b && eqb A B)
digits a b A B h k = go (eqb a b) refl (eqb A B) refl
  where
    go : (x : Bool) → eqb a b ≡ x → (y : Bool) → eqb A B ≡ y → eqb (a + 256 * A) (b + 256 * B) ≡ (x && y)
    go true e true f = eq-eqb (a + 256 * A) (b + 256 * B) (omega (arith, eqb-true a b e, eqb-true A B f))
    go true e false f = ne_eqb (a + 256 * A) (b + 256 * B) (λ g. eqb-false A B f (omega arith))
    go false e y f = ne_eqb (a + 256 * A) (b + 256 * B) (λ g. eqb-false a b e (omega arith))

pub le_eqb : (xs ys : List ℕ) → length xs ≡ length ys → T (are_bytes xs) → T (are_bytes ys) → eqb (le xs) (le ys) ≡ same xs ys
unfolding le same
le_eqb [] [] n p q = refl
le_eqb [] (y ∷ ys) n p q = absurd (omega arith)
le_eqb (x ∷ xs) [] n p q = absurd (omega arith)
le_eqb (x ∷ xs) (y ∷ ys) n p q =
    digits x y (le xs) (le ys) (ltb→lt x 256 (and_l (ltb x 256) (are_bytes xs) p)) (ltb→lt y 256 (and_l (ltb y 256) (are_bytes ys) q))
    ∙ ap (λ (t : Bool). eqb x y && t) (le_eqb xs ys (omega arith) (and_r (ltb x 256) (are_bytes xs) p) (and_r (ltb y 256) (are_bytes ys) q))

-- the bytes of a number are bytes
bytes_bytes : (n v : ℕ) → T (are_bytes (bytes n v))
unfolding bytes
bytes_bytes zero v = tt
bytes_bytes (suc n) v = and_i (ltb (v % 256) 256) (are_bytes (bytes n (v / 256))) (lt→ltb (v % 256) 256 (omega arith)) (bytes_bytes n (v / 256))

-- the n bytes at `at` are those of v exactly when their number is v
pub is_number : (n v : ℕ) (s : List ℕ) (at : ℕ) → at + n ≤ length s → T (are_bytes s) → v < 256 ^ n → eqb (le_at n s at) v ≡ same (take n (drop at s)) (bytes n v)
is_number n v s at h b k =
    ap (eqb (le_at n s at)) (sym (le_bytes n v k))
    ∙ le_eqb (take n (drop at s)) (bytes n v) (length-take-le n (drop at s) (simp length-drop (omega arith)) ∙ sym (length_bytes n v)) (bytes_take n (drop at s) (bytes_drop at s b)) (bytes_bytes n v)

-- the first eight bytes are the magic ones exactly when their number is
pub is_magic : (s : List ℕ) → 8 ≤ length s → T (are_bytes s) → eqb (le_at 8 s 0) 0x5345454645535242 ≡ same (take 8 s) magic
unfolding bytes
is_magic s h b = is_number 8 0x5345454645535242 s 0 h b (lit< tt)
