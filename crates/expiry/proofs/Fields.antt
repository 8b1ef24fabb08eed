-- Resolved-through raised in a record's bytes. Assumes nothing.
use mathlib.Core.Path.{◌≡◌, sym, ◌∙◌}
use mathlib.Core.Bool.{Bool, true, false, cond}
use mathlib.Core.List.{List}
use Prim.Native.Nat.{ℕ, ◌≤◌, ◌<◌}
use native.Mathlib.Omega.{arith}
use borrow.Author.Tests.{lt-ltb, le-ltb}
use lib.Dec.{ltb}
use lib.ListN.{length}
use Rattle.rules.specs.Board.{pending_of}
use Rattle.table.specs.Fields.{with_field}
use Rattle.table.proofs.Fields.{length_with_field}
use Rattle.expiry.specs.Fields.{through_at, reach, raised}

pub length_raised : (size width h : ℕ) (r : List ℕ) → length r ≡ size → length (raised width h r) ≡ size
unfolding raised
length_raised size width h r e = go (ltb (pending_of r).through (reach width h r))
  where
    go : (t : Bool) → length (cond t (with_field through_at (reach width h r) r) r) ≡ size
    go true = length_with_field through_at (reach width h r) r ∙ e
    go false = e

-- a turn of the pass that raises resolved-through: t is the record's, and o what the record has outwaited
module _ (width h t o : ℕ) (r : List ℕ) (e : t ≡ (pending_of r).through) (f : o ≡ reach width h r) where
  pub raised_yes : t < o → with_field through_at o r ≡ raised width h r
  unfolding raised
  raised_yes l =
      let k : (pending_of r).through < reach width h r = omega arith in
      sym (rw (lt-ltb _ _ k, f))

  pub raised_no : o ≤ t → r ≡ raised width h r
  unfolding raised
  raised_no l =
      let k : reach width h r ≤ (pending_of r).through = omega arith in
      sym (rw (le-ltb _ _ k))
