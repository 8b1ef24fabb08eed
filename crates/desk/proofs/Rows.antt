-- The rows of the page that several operations share. Assumes nothing.
use mathlib.Core.Path.{◌≡◌, refl, sym, ap, ◌∙◌}
use mathlib.Core.Logic.{◌⊎◌, ⊎_elim}
use mathlib.Core.List.{List}
use Prim.Native.Nat.{ℕ}
use Rattle.kinds.specs.declared.Horizon.{Horizon}
use Rattle.kinds.specs.declared.State.{State}
use Rattle.rules.specs.Memory.{Lent}
use Rattle.page.specs.declared.page.Operation.{Operation}
use Rattle.lines.specs.declared.lines.Line.{Line}
use Rattle.std.specs.Prelude.{Some}
use Rattle.desk_calls.specs.declared.calls.Done.{Done}
use Rattle.desk_lays.specs.Lays.{operation_lays}
use Rattle.desk_calls.specs.Calls.{block_does, read_does}
use Rattle.desk.specs.Desk.{Changed, changed, called, on_memory, operation_does}

-- what is done, told apart from the lent memory
pub put : (d e : Done) (l : Lent) → d ≡ e → changed (Some d) l ≡ changed (Some e) l
put d e l p = ap (λ (x : Done). changed (Some x) l) p

module _ (on : Horizon) (of : Operation) (line : Line) (s : State) (text : List ℕ) (l : Lent) where
  -- the row of an operation
  pub by : (o : Operation) (d : Changed) → of ≡ o → d ≡ operation_does on o line s text l → d ≡ operation_does on of line s text l
  by o d e p = p ∙ sym (ap (λ (x : Operation). operation_does on x line s text l) e)

  -- the same, as a step
  row : (o : Operation) (d : Changed) → operation_does on o line s text l ≡ d → of ≡ o → operation_does on of line s text l ≡ d
  row o d p e = sym (by o d e (sym p))

  -- `block` and `blockraw`
  pub blocks : (of ≡ Operation.Block) ⊎ (of ≡ Operation.BlockRaw) → operation_does on of line s text l ≡ called (block_does on line s text l)
  unfolding operation_does
  blocks h = ⊎_elim (row Operation.Block _ refl) (row Operation.BlockRaw _ refl) h

  -- `read` and `again`
  pub reads : (of ≡ Operation.Read) ⊎ (of ≡ Operation.Again) → operation_does on of line s text l ≡ called (read_does on s text l)
  unfolding operation_does
  reads h = ⊎_elim (row Operation.Read _ refl) (row Operation.Again _ refl) h

-- the other lines change at most the lent memory itself
pub others : (on : Horizon) (of : Operation) (line : Line) (s : State) (text : List ℕ) (l : Lent)
    → (of ≡ Operation.State → ⊥)
    → (of ≡ Operation.Start → ⊥)
    → (of ≡ Operation.Enter → ⊥)
    → (of ≡ Operation.Leave → ⊥)
    → (of ≡ Operation.Block → ⊥)
    → (of ≡ Operation.BlockRaw → ⊥)
    → (of ≡ Operation.Read → ⊥)
    → (of ≡ Operation.Again → ⊥)
    → operation_does on of line s text l ≡ on_memory s (operation_lays of line text l)
unfolding operation_does
others on Operation.PassedOver line s text l b c d e f g h i = refl
others on Operation.Board line s text l b c d e f g h i = refl
others on Operation.Lend line s text l b c d e f g h i = refl
others on Operation.Byte line s text l b c d e f g h i = refl
others on Operation.Count line s text l b c d e f g h i = refl
others on Operation.State line s text l b c d e f g h i = absurd (b refl)
others on Operation.Start line s text l b c d e f g h i = absurd (c refl)
others on Operation.Enter line s text l b c d e f g h i = absurd (d refl)
others on Operation.Leave line s text l b c d e f g h i = absurd (e refl)
others on Operation.Block line s text l b c d e f g h i = absurd (f refl)
others on Operation.BlockRaw line s text l b c d e f g h i = absurd (g refl)
others on Operation.Estimate line s text l b c d e f g h i = refl
others on Operation.Estimates line s text l b c d e f g h i = refl
others on Operation.Bucket line s text l b c d e f g h i = refl
others on Operation.Write line s text l b c d e f g h i = refl
others on Operation.Read line s text l b c d e f g h i = absurd (h refl)
others on Operation.Again line s text l b c d e f g h i = absurd (i refl)
others on Operation.Sum line s text l b c d e f g h i = refl
