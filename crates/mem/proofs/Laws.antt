-- Laws of four bytes as a number. Assumes nothing.
use mathlib.Core.Path.{◌≡◌, refl, sym, ap, ◌∙◌}
use mathlib.Core.List.{List, ◌∷◌}
use Prim.Native.Nat.{ℕ, zero, suc, ◌+◌, ◌*◌, ◌/◌, ◌%◌, ◌^◌, ◌≤◌, ◌<◌}
use native.Mathlib.Numerals.{add-one}
use native.Mathlib.Omega.{arith}
use lib.ListN.{length, take, drop, get_or}
use lib.Seq.{drop-cons}
use Rattle.std.specs.Int.{bytes_low_first}
use Rattle.std.proofs.Math.Nat.{pow-suc, div-div-eq-div-mul}
use Rattle.rules.specs.Bytes.{le, bytes}
use Rattle.mem.specs.Le.{le_at}
use Rattle.mem.specs.Be.{be_at}

-- one byte more, with the place after it under any name
pub le_at_next : (n : ℕ) (s : List ℕ) (at to : ℕ) → to ≡ at + 1 → at < length s → le_at (suc n) s at ≡ get_or s at 0 + 256 * le_at n s to
unfolding le
le_at_next n s at to e h =
    ap (λ (l : List ℕ). le (take (suc n) l)) (drop-cons s at 0 h)
    ∙ ap (λ (k : ℕ). get_or s at 0 + 256 * le (take n (drop k s))) (sym (e ∙ add-one at))

le_at_none : (s : List ℕ) (at : ℕ) → le_at 0 s at ≡ 0
unfolding le
le_at_none s at = refl

pub le_at_4 : (s : List ℕ) (at : ℕ) → at + 4 ≤ length s
    → le_at 4 s at ≡ get_or s at 0 + 256 * (get_or s (at + 1) 0 + 256 * (get_or s (at + 2) 0 + 256 * get_or s (at + 3) 0))
le_at_4 s at h =
    let a = le_at_next 3 s at (at + 1) refl (omega arith) in
    let b = le_at_next 2 s (at + 1) (at + 2) (omega arith) (omega arith) in
    let c = le_at_next 1 s (at + 2) (at + 3) (omega arith) (omega arith) in
    let d = le_at_next 0 s (at + 3) (at + 4) (omega arith) (omega arith) in
    let e = le_at_none s (at + 4) in
    omega arith

pub be_at_4 : (s : List ℕ) (at : ℕ) → be_at 4 s at ≡ get_or s (at + 3) 0 + 256 * (get_or s (at + 2) 0 + 256 * (get_or s (at + 1) 0 + 256 * get_or s at 0))
unfolding be_at
be_at_4 s at =
    let z : at + 0 ≡ at = omega arith in
    let e : get_or s (at + 0) 0 ≡ get_or s at 0 = ap (λ (k : ℕ). get_or s k 0) z in
    omega arith

low_from : (i k n : ℕ) → bytes_low_first (suc i) k n ≡ bytes k (n / 256 ^ suc i)
unfolding bytes
low_from i zero n = refl
low_from i (suc k) n =
    let e : n / 256 ^ suc (suc i) ≡ n / 256 ^ suc i / 256 = ap (λ (p : ℕ). n / p) (pow-suc 256 (suc i)) ∙ sym (div-div-eq-div-mul n (256 ^ suc i) 256) in
    ap (λ (l : List ℕ). n / 256 ^ suc i % 256 ∷ l) (low_from (suc i) k n ∙ ap (bytes k) e)

-- the library's bytes of a number, of any width
pub le_bytes_are : (k n : ℕ) → bytes_low_first 0 (suc k) n ≡ bytes (suc k) n
unfolding bytes
le_bytes_are k n = ap (λ (l : List ℕ). n % 256 ∷ l) (low_from 0 k n)
