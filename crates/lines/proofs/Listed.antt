-- The ids of a block, as a loop takes them one after the other.
-- Assumes nothing.
use mathlib.Core.Path.{◌≡◌, refl, sym, ap}
use mathlib.Core.Bool.{true, false}
use mathlib.Core.List.{List}
use Prim.Native.Nat.{ℕ, zero, suc, ◌+◌, ◌-◌, ◌≤◌, ◌<◌}
use native.Mathlib.Omega.{arith}
use borrow.Author.Tests.{lt-ltb, le-ltb}
use lib.Dec.{ltb}
use lib.ListN.{length}
use Rattle.script.specs.Words.{word_from}
use Rattle.script.specs.Hex.{some_bytes, is_id}
use Rattle.std.specs.declared.ops.Range.{Range}
use Rattle.lines.specs.Lines.{text_of, ids_from}

module _ (line : List ℕ) (at : ℕ) where
  -- no word is left
  pub ended : (n : ℕ) → length line < at → ids_from n line at ≡ true
  unfolding ids_from
  ended zero h = lt-ltb _ _ h
  ended (suc n) h = simp (lt-ltb _ _ h)

  -- no word more may follow
  pub last : ids_from 0 line at ≡ ltb (length line) at
  unfolding ids_from
  last = refl

  -- the next word is an id
  pub next_id : (n : ℕ) (w : Range ℕ) → w ≡ word_from line at → at ≤ length line → 0 < n → some_bytes 32 (text_of line w) ≡ true → ids_from n line at ≡ ids_from (n - 1) line (w.end + 1)
  unfolding ids_from is_id
  next_id zero w e h k i = absurd (omega arith)
  next_id (suc n) w e h k i = rw (sym e) (simp (le-ltb _ _ h, i) (ap (λ (m : ℕ). ids_from m line (w.end + 1)) (less n)))
    where
      less : (m : ℕ) → m ≡ suc m - 1
      less m = omega arith

  -- or it is none
  pub no_id : (n : ℕ) (w : Range ℕ) → w ≡ word_from line at → at ≤ length line → some_bytes 32 (text_of line w) ≡ false → ids_from n line at ≡ false
  unfolding ids_from is_id
  no_id zero w e h i = le-ltb _ _ h
  no_id (suc n) w e h i = rw (sym e) (simp (le-ltb _ _ h, i))
