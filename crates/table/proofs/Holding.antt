-- A table whose used places hold certain records, while a loop changes them: what stands behind them is as it was at the start. Assumes nothing.
use mathlib.Core.Path.{◌≡◌, sym, ap, ◌∙◌}
use mathlib.Core.List.{List}
use Prim.Native.Nat.{ℕ, ◌*◌, ◌≤◌}
use native.Mathlib.Omega.{arith}
use lib.ListN.{length}
use Rattle.rules.specs.Records.{records, laid}
use Rattle.rules.proofs.Records.{Sized, length_records, sized_records, laid_length, laid_records, laid_twice}
use Rattle.table.proofs.Laid.{laid_same}

-- the bytes a are those of xs with the records rs laid into the used places
pub record Holds (size used : ℕ) (xs : List ℕ) (rs : List (List ℕ)) (a : List ℕ) : Type 0 where
  pub is : a ≡ laid size used rs xs
  pub sized : Sized size rs
  pub long : length rs ≡ used
  pub room : used * size ≤ length xs

module _ (size used : ℕ) (xs : List ℕ) where
  pub holds_own : used * size ≤ length xs → Holds size used xs (records size used xs) xs
  holds_own h = record { is = sym (laid_same size used xs h); sized = sized_records size used xs h; long = length_records size used xs; room = h }

  module _ {rs : List (List ℕ)} {a : List ℕ} (h : Holds size used xs rs a) where
    pub holds_length : length a ≡ length xs
    holds_length = ap length h.is ∙ laid_length size used rs xs h.sized (omega (arith, h.long)) h.room

    pub holds_records : records size used a ≡ rs
    holds_records = ap (records size used) h.is ∙ ap (λ (n : ℕ). records size n (laid size used rs xs)) (sym h.long) ∙ laid_records size used rs xs h.sized

    -- other records are laid over them
    pub holds_then : {qs : List (List ℕ)} {b : List ℕ} → Sized size qs → length qs ≡ used → b ≡ laid size used qs a → Holds size used xs qs b
    holds_then {qs} s l e =
        record { is = e ∙ ap (laid size used qs) h.is ∙ laid_twice size used rs xs h.sized (omega (arith, h.long)) h.room qs; sized = s; long = l; room = h.room }
