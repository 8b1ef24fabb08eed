-- The lines of the columns' targets, one after the other: what is left to be told, told from here, is what was to be told at first. Assumes nothing.
use mathlib.Core.Path.{◌≡◌, refl, sym, ap, ap₂, ◌∙◌}
use mathlib.Core.List.{List, ◌∷◌}
use Prim.Native.Nat.{ℕ, zero, suc, ◌+◌, ◌*◌, ◌-◌, ◌≤◌, ◌<◌}
use native.Mathlib.Numerals.{add-one}
use native.Mathlib.Omega.{arith}
use Rattle.kinds.specs.declared.Horizon.{Horizon}
use Rattle.rules.specs.Board.{board_of}
use Rattle.print.specs.Page.{Page, write, writes}
use Rattle.print.specs.Numerals.{decimal}
use Rattle.print.specs.Text.{Text}
use Rattle.report.specs.Words.{space, end}
use Rattle.report.specs.Shown.{target_line, target_lines}

-- one line of four pieces
pub one_line : (rate : ℕ → Text) (t : ℕ) (x : Text) (p : Page) {q r s z : Page} → q ≡ write (decimal t) p → r ≡ write space q → s ≡ write x r → z ≡ write end s → x ≡ rate t
    → z ≡ writes (target_line rate t) p
unfolding writes target_line
one_line rate t x p a b c d e = d ∙ ap (write end) (c ∙ ap (write x) (b ∙ ap (write space) a)) ∙ ap (λ (y : Text). write end (write y (write space (write (decimal t) p)))) e

module _ (width : ℕ) (rate : ℕ → Text) where
  next_line : (c n : ℕ) (p : Page) {q : Page} → q ≡ writes (target_line rate (width * c)) p → writes (target_lines width rate (suc c) n) q ≡ writes (target_lines width rate c (suc n)) p
  unfolding writes target_line target_lines
  next_line c n p e = ap (writes (target_lines width rate (suc c) n)) e

  -- the columns from c to 25 are left
  pub record Left (first : Page) (c : ℕ) (p : Page) : Type 0 where
    pub low : 1 ≤ c
    pub high : c ≤ 26
    pub left : writes (target_lines width rate c (26 - c)) p ≡ writes (target_lines width rate 1 25) first

  pub start : (p : Page) → Left p 1 p
  start p = record { low = omega arith; high = omega arith; left = refl }

  pub next : {first p q : Page} (c : ℕ) → Left first c p → c < 26 → q ≡ writes (target_line rate (width * c)) p → Left first (c + 1) q
  next {first} {p} {q} c l h e =
      let n : 26 - c ≡ suc (26 - (c + 1)) = omega arith in
      record {
        low = omega arith;
        high = omega arith;
        left = ap (λ (d : ℕ). writes (target_lines width rate d (26 - (c + 1))) q) (add-one c) ∙ next_line c (26 - (c + 1)) p e ∙ ap (λ (m : ℕ). writes (target_lines width rate c m) p) (sym n) ∙ l.left;
      }

  pub stop : {first p : Page} (c : ℕ) → Left first c p → 26 ≤ c → p ≡ writes (target_lines width rate 1 25) first
  unfolding writes target_lines
  stop {first} {p} c l h =
      let n : 26 - c ≡ 0 = omega (arith, l.low) in
      ap (λ (m : ℕ). writes (target_lines width rate c m) p) (sym n) ∙ l.left

-- a column's target is at most 150 blocks
pub few_blocks : (on : Horizon) (c : ℕ) → c ≤ 25 → (board_of on).width * c ≤ 150
few_blocks Horizon.Base c h = omega arith
few_blocks Horizon.Wide c h = omega arith

-- the same rates, the same lines
pub lines_same : (width : ℕ) (f g : ℕ → Text) → ((t : ℕ) → f t ≡ g t) → (c n : ℕ) → target_lines width f c n ≡ target_lines width g c n
unfolding target_line target_lines
lines_same width f g h c zero = refl
lines_same width f g h c (suc n) =
    ap₂ (λ (x : Text) (l : List Text). decimal (width * c) ∷ space ∷ x ∷ end ∷ l) (h (width * c)) (lines_same width f g h (suc c) n)
