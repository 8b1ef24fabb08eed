-- The rows of the page on lent memory itself. Assumes nothing.
use mathlib.Core.Path.{◌≡◌, refl}
use mathlib.Core.Bool.{true}
use mathlib.Core.List.{List}
use Prim.Native.Nat.{ℕ}
use Rattle.rules.specs.Memory.{Lent}
use Rattle.page.specs.declared.page.Operation.{Operation}
use Rattle.lines.specs.declared.lines.Line.{Line}
use Rattle.desk_lays.specs.Lays.{lain, operation_lays}

-- the lines that leave it
pub others : (of : Operation) (line : Line) (text : List ℕ) (l : Lent) → (of ≡ Operation.Lend → ⊥) → (of ≡ Operation.Byte → ⊥) → (of ≡ Operation.Count → ⊥) → operation_lays of line text l ≡ lain true l
unfolding operation_lays
others Operation.PassedOver line text l a b c = refl
others Operation.Board line text l a b c = refl
others Operation.Lend line text l a b c = absurd (a refl)
others Operation.Byte line text l a b c = absurd (b refl)
others Operation.Count line text l a b c = absurd (c refl)
others Operation.State line text l a b c = refl
others Operation.Start line text l a b c = refl
others Operation.Enter line text l a b c = refl
others Operation.Leave line text l a b c = refl
others Operation.Block line text l a b c = refl
others Operation.BlockRaw line text l a b c = refl
others Operation.Estimate line text l a b c = refl
others Operation.Estimates line text l a b c = refl
others Operation.Bucket line text l a b c = refl
others Operation.Write line text l a b c = refl
others Operation.Read line text l a b c = refl
others Operation.Again line text l a b c = refl
others Operation.Sum line text l a b c = refl
