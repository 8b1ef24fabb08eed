-- The bytes of a word, and the ids of a block as a loop puts them one after the other.
-- Assumes nothing.
use mathlib.Core.Path.{◌≡◌, refl, sym, ap}
use mathlib.Core.Bool.{Bool, true, false, cond}
use mathlib.Core.List.{List, ◌++◌}
use Prim.Native.Nat.{ℕ, zero, suc, ◌+◌, ◌-◌, ◌/◌, ◌≤◌, ◌<◌}
use native.Mathlib.Omega.{arith}
use borrow.Author.Tests.{lt-ltb, le-ltb}
use lib.ListN.{length, replicate}
use Rattle.print.specs.Page.{Page, write}
use Rattle.std.specs.Prelude.{Some, None}
use Rattle.std.specs.Option.{unwrap_or}
use Rattle.std.specs.declared.ops.Range.{Range}
use Rattle.script.specs.Words.{word_from}
use Rattle.script.specs.Hex.{hex_bytes, is_id, id_bytes, id_of}
use Rattle.lines.specs.Lines.{text_of}
use Rattle.gathers.specs.Gathers.{listed}

-- an id, or zeros for a word that says none
pub id_or_zeros : (w : List ℕ) → unwrap_or (id_of w) (replicate 32 0) ≡ id_bytes w
unfolding id_bytes
id_or_zeros w = go (is_id w)
  where
    yes : List ℕ
    yes = hex_bytes w ++ replicate (32 - length w / 2) 0

    go : (t : Bool) → unwrap_or (cond t (Some (cond t yes (replicate 32 0))) None) (replicate 32 0) ≡ cond t yes (replicate 32 0)
    go true = refl
    go false = refl

module _ (text : List ℕ) (at : ℕ) where
  module _ (p : Page) where
    -- no word is left
    pub all_listed : (n : ℕ) → length text < at → listed n text at p ≡ p
    unfolding listed
    all_listed zero h = refl
    all_listed (suc n) h = simp (lt-ltb _ _ h)

    -- no id more may follow
    pub enough : listed 0 text at p ≡ p
    unfolding listed
    enough = refl

    -- one id more
    pub next_listed : (n : ℕ) (w : Range ℕ) → w ≡ word_from text at → at ≤ length text → 0 < n
        → listed n text at p ≡ listed (n - 1) text (w.end + 1) (write (id_bytes (text_of text w)) p)
    unfolding listed
    next_listed zero w e h k = absurd (omega arith)
    next_listed (suc n) w e h k = rw (sym e) (simp (le-ltb _ _ h) (ap (λ (m : ℕ). listed m text (w.end + 1) (write (id_bytes (text_of text w)) p)) (less n)))
      where
        less : (m : ℕ) → m ≡ suc m - 1
        less m = omega arith
