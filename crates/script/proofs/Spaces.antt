-- Laws of words. Assumes nothing.
use mathlib.Core.Path.{◌≡◌, refl, ap, sym, ◌∙◌}
use mathlib.Core.Bool.{Bool, true, false, not, cond}
use mathlib.Core.List.{List, [], ◌∷◌}
use Prim.Native.Nat.{ℕ, ◌+◌}
use native.Mathlib.Omega.{arith}
use borrow.Author.Tests.{ltb-true, ltb-false}
use lib.Dec.{eqb, ltb}
use lib.ListN.{length, drop, drop_of_length-le}
use Rattle.std.specs.Prelude.{Some, None, position, min}
use Rattle.std.specs.Option.{unwrap_or}
use Rattle.std.specs.List.{position_or_len}
use Rattle.std.specs.declared.ops.Range.{Range}
use Rattle.std.proofs.lemmas.List.Recursion.{is_position_or_len}
use Rattle.std.proofs.lemmas.List.Sums.{prefix_len-le-length}
use Rattle.script.specs.Words.{index_of, word_from}

none : (x : ℕ) → index_of x [] ≡ 0
unfolding index_of
none x = refl

one : (x y : ℕ) (ys : List ℕ) → index_of x (y ∷ ys) ≡ cond (eqb y x) 0 (1 + index_of x ys)
unfolding index_of
one x y ys = ap (cond (eqb y x) 0) (omega arith)

-- where the first x stands, in the library's words
index_of_position : (x : ℕ) (xs : List ℕ) → unwrap_or (position (λ y. eqb y x) xs) (length xs) ≡ index_of x xs
index_of_position x xs = sym (is_position_or_len (index_of x) (λ y. eqb y x) (none x) (one x) xs ∙ go (ltb n (length xs)) refl)
  where
    n : ℕ
    n = position_or_len (λ y. eqb y x) xs

    go : (t : Bool) → ltb n (length xs) ≡ t → n ≡ unwrap_or (cond t (Some n) None) (length xs)
    go true h = refl
    go false h = let a = ltb-false _ _ h in let b = prefix_len-le-length (λ y. not (eqb y x)) xs in omega arith

-- the word at `at`, which is cut to the line
pub word_there : (line : List ℕ) (at start size : ℕ) → start ≡ min at (length line) → size ≡ unwrap_or (position (λ y. eqb y 32) (drop start line)) (length (drop start line))
    → ◌≡◌ {A = Range ℕ} (record { start = start; end = start + size }) (word_from line at)
unfolding word_from
word_there line at start size e f = go (ltb (length line) at) refl
  where
    found : size ≡ index_of 32 (drop start line)
    found = f ∙ index_of_position 32 (drop start line)

    go : (t : Bool) → ltb (length line) at ≡ t
        → ◌≡◌ {A = Range ℕ} (record { start = start; end = start + size }) (cond t (record { start = length line; end = length line }) (record { start = at; end = at + index_of 32 (drop at line) }))
    go true h =
        let past = ltb-true _ _ h in
        let s : start ≡ length line = omega arith in
        let n : size ≡ 0 = found ∙ rw (s, drop_of_length-le line {i = length line} (omega arith)) (none 32) in
        let t : start + size ≡ length line = omega arith in
        cc
    go false h =
        let within = ltb-false _ _ h in
        let s : start ≡ at = omega arith in
        let t : start + size ≡ at + index_of 32 (drop at line) = rw (found, s) refl in
        cc
