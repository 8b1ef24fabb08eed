-- What the code asks of a record: all by the last skipped height, and of pending records by the mark beside them. Assumes nothing.
use Rattle.std.specs.Prelude.{ℕ, ◌+◌, ◌-◌, max, Bool, true, not, ◌&&◌, cond, List, [], ◌∷◌, leb, ltb, eqb, None, Some}
use Rattle.kinds.specs.Last.{Last}
use Rattle.rules.specs.Lists.{bit, any}
use Rattle.rules.specs.Ids.{Id, same}
use Rattle.rules.specs.Counts.{columns}
use Rattle.rules.specs.Board.{Board, Pending, Confirmed}
use Rattle.rules.specs.Estimator.{outwaited, prune_window}
use Rattle.batch.specs.Needed.{skips}

-- the last of the heights that a block at B skips, if it skips any
unfoldable pub last_skipped : Last → ℕ → Last
last_skipped last B = cond (skips last B) (Some (record { 0 = B - 1 })) None

-- the least height of a confirmed record that stays through the skipped heights, by the last of them
unfoldable pub least_height : Last → ℕ
least_height None = 0
least_height (Some h) = h.0 - prune_window

-- a pending record lasts through them
unfoldable pub lasts_through : Board → Last → Pending → Bool
lasts_through k None r = true
lasts_through k (Some h) r = ltb (max r.through (outwaited k h.0 r)) columns

-- the confirmed record of i, if there is one, has at least the height
unfoldable pub held_above : ℕ → List Confirmed → Id → Bool
held_above least cs i = any (λ c. same c.id i && leb least c.height) cs

-- a pending record lasts, and has no confirmed record that stays
unfoldable pub comes_new : Board → Last → List Confirmed → Pending → Bool
comes_new k skipped cs r = lasts_through k skipped r && not (held_above (least_height skipped) cs r.id)

module _ {A : Type 0} where
  -- how many of the records that are marked pass a test
  unfoldable pub marked_count : (A → Bool) → List ℕ → List A → ℕ
  marked_count p ms [] = 0
  marked_count p [] (r ∷ rs) = 0
  marked_count p (m ∷ ms) (r ∷ rs) = bit (eqb m 1 && p r) + marked_count p ms rs
