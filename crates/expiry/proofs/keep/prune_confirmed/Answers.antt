-- `expiry::keep::prune_confirmed` meets its contract: a height of at least h minus 25 is one with h minus it not above 25. Assumes nothing.
use mathlib.Core.Path.{◌≡◌, refl, sym, ap, ◌∙◌}
use mathlib.Core.Bool.{Bool, true, false}
use mathlib.Core.List.{List}
use Prim.Native.Nat.{ℕ, ◌-◌}
use native.Mathlib.Omega.{arith}
use lib.Dec.{leb}
use lib.ListN.{length}
use borrow.Author.Tests.{leb-true, leb-false, le-leb, lt-leb}
use Rattle.rules.specs.Counts.{columns}
use Rattle.rules.specs.Records.{records, laid}
use Rattle.rules.specs.Board.{confirmed_size, confirmed_of}
use Rattle.lists.proofs.Lists.{keep_ext}
use Rattle.table.specs.Fields.{field}
use Rattle.expiry.specs.Fields.{passing}
use Rattle.expiry.proofs.keep.prune_confirmed.Goals as goal

recent : (h v : ℕ) → leb (h - columns) v ≡ leb (h - v) columns
recent h v = go (leb (h - columns) v) refl
  where
    go : (t : Bool) → leb (h - columns) v ≡ t → t ≡ leb (h - v) columns
    go true e = sym (le-leb (h - v) columns (omega (arith, leb-true (h - columns) v e)))
    go false e = sym (lt-leb (h - v) columns (omega (arith, leb-false (h - columns) v e)))

height_recent : (h m : ℕ) → m ≡ h - columns → (b : List ℕ) → passing 32 (leb m) b ≡ leb (h - (confirmed_of b).height) columns
unfolding confirmed_of
height_recent h m e b = ap (λ (n : ℕ). leb n (field 32 b)) e ∙ recent h (field 32 b)

pub returns : goal.returns
returns c =
    let m : c.saturating_sub-least.result ≡ c.args.h.0 - columns = c.saturating_sub-least.ensures in
    let e = keep_ext (passing 32 (leb c.saturating_sub-least.result)) (λ b. leb (c.args.h.0 - (confirmed_of b).height) columns) (records confirmed_size c.args.used c.args.table.now) (height_recent c.args.h.0 c.saturating_sub-least.result m) in record { value = c.keep_passing.ensures.value ∙ ap length e; table_after = c.keep_passing.ensures.table_after ∙ ap (λ (rs : List (List ℕ)). laid confirmed_size c.args.used rs c.args.table.now) e }
