-- Each single addition is paid for: what the pending records have left to be counted, the columns above resolved-through, falls by at least as much as a step of a block
-- adds. So a block adds at most 25 for each record that was pending before it. Assumes nothing.
use mathlib.Core.Path.{◌≡◌, refl, ◌∙◌}
use mathlib.Core.Bool.{Bool, true, false, not, cond}
use mathlib.Core.List.{List, [], ◌∷◌, map}
use Rattle.std.specs.Prelude.{Option, None, Some}
use Prim.Native.Nat.{ℕ, zero, suc, ◌+◌, ◌-◌, ◌*◌, ◌≤◌, zero-le}
use native.Mathlib.Omega.{arith}
use lib.Dec.{ltb}
use lib.ListN.{length}
use Rattle.kinds.specs.Last.{Last}
use Rattle.rules.specs.Lists.{keep, insert}
use Rattle.rules.specs.Ids.{Id, same, dropped}
use Rattle.rules.specs.Counts.{columns}
use Rattle.rules.specs.Board.{Board, Pending}
use Rattle.rules.specs.Estimator.{Estimator, find, without, holds, tx_left, unresolved, record_confirmation, outwaited, expiring, moved, advance_height, advances, advance_heights, skip_heights, confirm, confirm_all, finish_block, block_connected}
use Rattle.rules.specs.Report.{gained, additions, adds_found, adds_confirm, adds_all, adds_expire, adds_heights, adds_skip, adds_finish, adds}
use Rattle.rules.proofs.Sums.{gained_above, gained_between}

-- ---- what pending records have left

-- the columns above resolved-through, of all of them
abbrev pub left : List Pending → ℕ
left rs = additions unresolved rs

pub left_most : (rs : List Pending) → left rs ≤ columns * length rs
unfolding additions
left_most [] = zero-le
left_most (r ∷ rs) = omega (arith, left_most rs, gained_above r.through)

pub left_keep : (p : Pending → Bool) (rs : List Pending) → left (keep p rs) ≤ left rs
unfolding keep additions
left_keep p [] = zero-le
left_keep p (r ∷ rs) = go (p r) (left_keep p rs)
  where
    go : (b : Bool) → left (keep p rs) ≤ left rs → left (cond b (r ∷ keep p rs) (keep p rs)) ≤ gained (unresolved r) + left rs
    go true h = omega arith
    go false h = omega arith

pub left_insert : (lt : Pending → Pending → Bool) (x : Pending) (rs : List Pending) → left (insert lt x rs) ≡ gained (unresolved x) + left rs
unfolding insert additions
left_insert lt x [] = refl
left_insert lt x (y ∷ ys) = go (lt x y) (left_insert lt x ys)
  where
    go : (b : Bool) → left (insert lt x ys) ≡ gained (unresolved x) + left ys → left (cond b (x ∷ y ∷ ys) (y ∷ insert lt x ys)) ≡ gained (unresolved x) + (gained (unresolved y) + left ys)
    go true h = refl
    go false h = omega arith

-- ---- a listed id

found : (i : Id) (rs : List Pending) → adds_found (find i rs) + left (without i rs) ≤ left rs
unfolding adds_found find dropped keep additions
found i [] = zero-le
found i (r ∷ rs) = go (same r.id i) (found i rs) (left_keep (λ r. not (same r.id i)) rs)
  where
    go : (b : Bool) → adds_found (find i rs) + left (without i rs) ≤ left rs → left (without i rs) ≤ left rs
        → adds_found (cond b (Some r) (find i rs)) + left (cond (not b) (r ∷ without i rs) (without i rs)) ≤ gained (unresolved r) + left rs
    go true h l = omega arith
    go false h l = omega arith

module _ (k : Board) where
  confirmed : (B : ℕ) (i : Id) (s : Estimator) → adds_confirm B i s + left (confirm k B i s).pending ≤ left s.pending
  unfolding adds_confirm adds_found confirm tx_left record_confirmation dropped
  confirmed B i s = go (holds i B s.recent)
    where
      look : (o : Option Pending) → adds_found o + left (without i s.pending) ≤ left s.pending → adds_found o + left (record_confirmation k B i o s).pending ≤ left s.pending
      look None h = omega arith
      look (Some r) h = h

      go : (b : Bool) → cond b 0 (adds_found (find i s.pending)) + left (cond b (tx_left i s) (record_confirmation k B i (find i s.pending) s)).pending ≤ left s.pending
      go true = omega (arith, left_keep (λ r. not (same r.id i)) s.pending)
      go false = look (find i s.pending) (found i s.pending)

  pub paid_listed : (B : ℕ) (ids : List Id) (s : Estimator) → adds_all k B ids s + left (confirm_all k B ids s).pending ≤ left s.pending
  unfolding adds_all confirm_all
  paid_listed B [] s = omega arith
  paid_listed B (i ∷ is) s = omega (arith, confirmed B i s, paid_listed B is (confirm k B i s))

  -- ---- a height

  expired : (h : ℕ) (rs : List Pending) → adds_expire k h rs + left (map (moved k h) rs) ≡ left rs
  unfolding adds_expire additions
  expired h [] = refl
  expired h (r ∷ rs) =
      let a : gained (expiring k h r) ≡ outwaited k h r - r.through = gained_between r.through (outwaited k h r) ∙ omega arith in
      omega (arith, expired h rs, a, gained_above r.through, gained_above (moved k h r).through)

  pub paid_height : (h : ℕ) (s : Estimator) → adds_expire k h s.pending + left (advance_height k h s).pending ≤ left s.pending
  unfolding advance_height
  paid_height h s = omega (arith, expired h s.pending, left_keep (λ r. ltb r.through columns) (map (moved k h) s.pending))

  pub paid_heights : (L n : ℕ) (s : Estimator) → adds_heights k L n s + left (advance_heights k L n s).pending ≤ left s.pending
  unfolding adds_heights advance_heights
  paid_heights L zero s = omega arith
  paid_heights L (suc n) s = omega (arith, paid_heights L n s, paid_height (L + suc n) (advance_heights k L n s))

  -- ---- a block

  pub paid_skip : (p : Last) (B : ℕ) (s : Estimator) → adds_skip k p B s + left (skip_heights k p B s).pending ≤ left s.pending
  unfolding adds_skip skip_heights
  paid_skip None B s = omega arith
  paid_skip (Some L) B s = paid_heights L.0 (B - suc L.0) s

  pub paid_finish : (b : Bool) (B : ℕ) (s : Estimator) → adds_finish k b B s + left (finish_block k b B s).pending ≤ left s.pending
  unfolding adds_finish finish_block
  paid_finish true B s = paid_height B s
  paid_finish false B s = omega arith

  pub paid : (ids : List Id) (B : ℕ) (s : Estimator) → adds k ids B s + left (block_connected k ids B s).pending ≤ left s.pending
  unfolding adds block_connected
  paid ids B s =
      let t = skip_heights k s.last B s in
      omega (arith, paid_skip s.last B s, paid_listed B ids t, paid_finish (advances s.last B) B (confirm_all k B ids t))
