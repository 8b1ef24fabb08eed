-- The last skipped height decides what the skipped heights leave; and of confirmed records a least height does. Assumes nothing.
use mathlib.Core.Path.{◌≡◌, refl, sym, ap₂, fun_ext}
use mathlib.Core.Bool.{Bool, true, false, not, ◌&&◌, ◌||◌, cond}
use mathlib.Core.List.{List}
use Prim.Native.Nat.{ℕ, ◌-◌, max}
use native.Mathlib.Omega.{arith}
use lib.Dec.{leb, ltb}
use borrow.Author.Tests.{leb-true, leb-false, le-leb, lt-leb}
use Rattle.kinds.specs.declared.Height.{Height}
use Rattle.kinds.specs.Last.{Last}
use Rattle.std.specs.Prelude.{None, Some}
use Rattle.rules.specs.Lists.{any}
use Rattle.rules.specs.Ids.{Id, same}
use Rattle.rules.specs.Counts.{columns}
use Rattle.rules.specs.Board.{Board, Pending, Confirmed}
use Rattle.rules.specs.Estimator.{outwaited, prune_window}
use Rattle.batch.specs.Needed.{listed, skips, stays, lasts, still_held, adds_one}
use Rattle.room.specs.Room.{last_skipped, least_height, lasts_through, held_above, comes_new}

-- ---- what the code finds out by it

module _ (skipped : Last) where
  module _ (k : Board) (r : Pending) where
    pub lasts_none : skipped ≡ None → true ≡ lasts_through k skipped r
    unfolding lasts_through
    lasts_none e = sym (rw e)

    -- t is the record's resolved-through, and o what it has outwaited
    pub lasts_some : {h : Height} (t o : ℕ) → skipped ≡ Some h → t ≡ r.through → o ≡ outwaited k h.0 r → ltb (max t o) columns ≡ lasts_through k skipped r
    unfolding lasts_through
    lasts_some t o e et eo = rw (e, et, eo)

-- ---- what it leaves

-- at most a window below h is at least h minus the window
young : (h v : ℕ) → leb (h - v) prune_window ≡ leb (h - prune_window) v
young h v = go (leb (h - v) prune_window) refl
  where
    go : (t : Bool) → leb (h - v) prune_window ≡ t → t ≡ leb (h - prune_window) v
    go true e = sym (le-leb (h - prune_window) v (omega (arith, leb-true (h - v) prune_window e)))
    go false e = sym (lt-leb (h - prune_window) v (omega (arith, leb-false (h - v) prune_window e)))

module _ (last : Last) (B : ℕ) where
  pub stays_is : stays last B ≡ (λ c. leb (least_height (last_skipped last B)) c.height)
  unfolding stays last_skipped least_height
  stays_is = fun_ext (λ c. go c (skips last B))
    where
      go : (c : Confirmed) (t : Bool) → (not t || leb (B - 1 - c.height) prune_window) ≡ leb (least_height (cond t (Some (record { 0 = B - 1 })) None)) c.height
      go c true = young (B - 1) c.height
      go c false = sym (le-leb 0 c.height (omega arith))

  lasts_is : (k : Board) → lasts k last B ≡ lasts_through k (last_skipped last B)
  unfolding lasts last_skipped lasts_through
  lasts_is k = fun_ext (λ r. go r (skips last B))
    where
      go : (r : Pending) (t : Bool) → (not t || ltb (max r.through (outwaited k (B - 1) r)) columns) ≡ lasts_through k (cond t (Some (record { 0 = B - 1 })) None) r
      go r true = refl
      go r false = refl

  -- a listed record makes one more exactly if it comes new
  pub adds_is : (k : Board) (ids : List Id) (cs : List Confirmed) → adds_one k ids B last cs ≡ (λ r. listed ids r.id && comes_new k (last_skipped last B) cs r)
  unfolding adds_one still_held comes_new held_above
  adds_is k ids cs =
      ap₂ {C = Pending → Bool} (λ (p : Confirmed → Bool) (q : Pending → Bool). λ r. listed ids r.id && (q r && not (any (λ c. same c.id r.id && p c) cs))) stays_is (lasts_is k)
