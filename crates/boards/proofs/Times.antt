-- From time to column. The first column that a wait fits is told by the two bounds that it meets; on either board a width is a literal, so these bounds make
-- it the rules' column, where it is at most the last one. Assumes nothing.
use mathlib.Core.Path.{◌≡◌, sym, subst, ◌∙◌}
use Prim.Native.Nat.{ℕ, zero, suc, ◌*◌, ◌≤◌, ◌<◌, min}
use native.Mathlib.Nat.{le_refl}
use native.Mathlib.Omega.{arith}
use lib.Dec.{leb}
use borrow.Author.Tests.{leb-true, leb-false, le-leb, lt-leb}
use Rattle.kinds.specs.declared.Horizon.{Horizon}
use Rattle.rules.specs.Counts.{columns}
use Rattle.rules.specs.Board.{board_of}
use Rattle.rules.specs.Estimate.{column_of}

-- r is the first column c with n at most w * c
abbrev First : ℕ → ℕ → ℕ → Type 0
First w r n = (c : ℕ) → leb r c ≡ leb n (w * c)

above : (w r n : ℕ) → First w r n → n ≤ w * r
above w r n f = leb-true n (w * r) (sym (f r) ∙ le-leb r r (le_refl r))

below : (w m n : ℕ) → First w (suc m) n → w * m < n
below w m n f = leb-false n (w * m) (sym (f m) ∙ lt-leb (suc m) m (le_refl (suc m)))

of_one : (r n c : ℕ) → First 1 r n → c ≡ min columns r → c ≡ column_of (board_of Horizon.Base) n
unfolding column_of
of_one zero n c f q = omega (arith, above 1 0 n f)
of_one (suc m) n c f q = omega (arith, above 1 (suc m) n f, below 1 m n f)

of_six : (r n c : ℕ) → First 6 r n → c ≡ min columns r → c ≡ column_of (board_of Horizon.Wide) n
unfolding column_of
of_six zero n c f q = omega (arith, above 6 0 n f)
of_six (suc m) n c f q = omega (arith, above 6 (suc m) n f, below 6 m n f)

pub column_is : (on : Horizon) (w r n c : ℕ) → w ≡ (board_of on).width → First w r n → c ≡ min columns r → c ≡ column_of (board_of on) n
column_is Horizon.Base w r n c e f q = of_one r n c (subst (λ (x : ℕ). First x r n) e f) q
column_is Horizon.Wide w r n c e f q = of_six r n c (subst (λ (x : ℕ). First x r n) e f) q

-- a target that is not 0 has one of the columns
pub column_within : (on : Horizon) (n : ℕ) → (n ≡ 0 → ⊥) → (1 ≤ column_of (board_of on) n) × (column_of (board_of on) n ≤ columns)
unfolding column_of
column_within Horizon.Base n h = (omega arith, omega arith)
column_within Horizon.Wide n h = (omega arith, omega arith)
