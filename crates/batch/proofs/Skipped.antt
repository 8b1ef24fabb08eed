-- The skipped heights leave the confirmed records that stay through the last of them, and of the pending records those that last through it: what a height
-- lets go, a later height would let go too, so the last height alone decides. Assumes nothing.
use mathlib.Core.Path.{◌≡◌, refl, sym, ap, ap₂, ◌∙◌, fun_ext}
use mathlib.Core.Bool.{Bool, true, false, ◌&&◌, cond}
use mathlib.Core.List.{List, [], ◌∷◌, map}
use Prim.Native.Nat.{ℕ, zero, suc, ◌+◌, ◌-◌, ◌/◌, ◌≤◌, ◌<◌, max, zero-le, suc-le-suc}
use native.Mathlib.Nat.{div-zero, le-div_iff_mul-le, div-mul-le_self, le_trans}
use native.Mathlib.Omega.{arith}
use lib.Dec.{leb, ltb}
use borrow.Author.Tests.{leb-true, le-leb, ltb-false, lt-ltb, le-ltb}
use Rattle.kinds.specs.declared.Height.{Height}
use Rattle.kinds.specs.Last.{Last}
use Rattle.std.specs.Prelude.{None, Some}
use Rattle.rules.specs.Lists.{count, keep}
use Rattle.rules.specs.Ids.{Id}
use Rattle.rules.specs.Counts.{columns}
use Rattle.rules.specs.Board.{Board, Pending, Confirmed}
use Rattle.rules.specs.Estimator.{Estimator, outwaited, moved, prune_window, advance_height, advance_heights, skip_heights}
use Rattle.batch.specs.Needed.{skips, stays, lasts}
use Rattle.lists.proofs.Counting.{count_ext, count_keep, count_map, keep_implied, keep_all}

-- ---- the confirmed records

abbrev young : ℕ → Confirmed → Bool
young h c = leb (h - c.height) prune_window

recent_after : (k : Board) (L : ℕ) (s : Estimator) (n : ℕ) → (advance_heights k L (suc n) s).recent ≡ keep (young (L + suc n)) s.recent
unfolding advance_heights advance_height
recent_after k L s zero = refl
recent_after k L s (suc n) = ap (keep (young (L + suc (suc n)))) (recent_after k L s n) ∙ keep_implied (young (L + suc n)) (young (L + suc (suc n))) earlier s.recent
  where
    earlier : (c : Confirmed) → young (L + suc (suc n)) c ≡ true → young (L + suc n) c ≡ true
    earlier c e = let h : L + suc (suc n) - c.height ≤ 25 = leb-true _ _ e in le-leb (L + suc n - c.height) 25 (omega arith)

-- ---- the pending records

div_mono : (w a b : ℕ) → a ≤ b → a / w ≤ b / w
div_mono zero a b h = omega (arith, div-zero a, div-zero b)
div_mono (suc w) a b h = (le-div_iff_mul-le {k = suc w} {x = a / suc w} {y = b} (suc-le-suc zero-le)).1 (le_trans (div-mul-le_self a (suc w)) h)

-- not resolved through the last column
abbrev waiting : Pending → Bool
waiting r = ltb r.through columns

module _ (k : Board) (g h : ℕ) (l : g ≤ h) where
  no_fewer : (r : Pending) → outwaited k g r ≤ outwaited k h r
  no_fewer r = omega (arith, div_mono k.width (g - r.entry) (h - r.entry) (omega arith))

  -- moved at a height and at a later one is moved at the later one
  moved_twice : (r : Pending) → moved k h (moved k g r) ≡ moved k h r
  moved_twice r =
      let e : max (max r.through (outwaited k g r)) (outwaited k h r) ≡ max r.through (outwaited k h r) = omega (arith, no_fewer r) in
      ap (λ (t : ℕ). record { id = r.id; bucket = r.bucket; entry = r.entry; through = t }) e

  -- two heights leave what the later one leaves
  later_alone : (rs : List Pending) → keep waiting (map (moved k h) (keep waiting (map (moved k g) rs))) ≡ keep waiting (map (moved k h) rs)
  unfolding keep
  later_alone [] = refl
  later_alone (r ∷ rs) = go (waiting (moved k g r)) refl (later_alone rs)
    where
      left : List Pending
      left = keep waiting (map (moved k g) rs)

      go : (t : Bool) → waiting (moved k g r) ≡ t → keep waiting (map (moved k h) left) ≡ keep waiting (map (moved k h) rs)
          → keep waiting (map (moved k h) (cond t (moved k g r ∷ left) left)) ≡ keep waiting (moved k h r ∷ map (moved k h) rs)
      go true e i = ap₂ (λ (q : Pending) (qs : List Pending). cond (waiting q) (q ∷ qs) qs) (moved_twice r) i
      go false e i =
          let no : waiting (moved k h r) ≡ false = le-ltb (max r.through (outwaited k h r)) columns (omega (arith, no_fewer r, ltb-false (max r.through (outwaited k g r)) columns e)) in
          rw no i

pending_after : (k : Board) (L : ℕ) (s : Estimator) (n : ℕ) → (advance_heights k L (suc n) s).pending ≡ keep waiting (map (moved k (L + suc n)) s.pending)
unfolding advance_heights advance_height
pending_after k L s zero = refl
pending_after k L s (suc n) =
    ap (λ (rs : List Pending). keep waiting (map (moved k (L + suc (suc n))) rs)) (pending_after k L s n)
    ∙ later_alone k (L + suc n) (L + suc (suc n)) (omega arith) s.pending

-- ---- all skipped heights

module _ (L : Height) (B : ℕ) where
  -- none is skipped
  none_skipped : B - suc L.0 ≡ 0 → skips (Some L) B ≡ false
  unfolding skips
  none_skipped q = let h : B ≤ suc L.0 = omega arith in rw le-ltb

  -- some are, and B - 1 is the last of them
  some_skipped : (n : ℕ) → B - suc L.0 ≡ suc n → (skips (Some L) B ≡ true) × (L.0 + suc n ≡ B - 1)
  unfolding skips
  some_skipped n q = let h : suc L.0 < B = omega arith in (rw lt-ltb, omega arith)

-- the confirmed records that stay are left
pub skipped_recent : (k : Board) (last : Last) (B : ℕ) (s : Estimator) → (skip_heights k last B s).recent ≡ keep (stays last B) s.recent
unfolding skip_heights advance_heights stays skips
skipped_recent k None B s = sym (keep_all s.recent)
skipped_recent k (Some L) B s = go (B - suc L.0) refl
  where
    go : (n : ℕ) → B - suc L.0 ≡ n → (advance_heights k L.0 n s).recent ≡ keep (stays (Some L) B) s.recent
    go zero q = sym (keep_all s.recent) ∙ ap (λ (p : Confirmed → Bool). keep p s.recent) (fun_ext (λ c. rw (none_skipped L B q)))
    go (suc n) q = let e = some_skipped L B n q in recent_after k L.0 s n ∙ ap (λ (p : Confirmed → Bool). keep p s.recent) (fun_ext (λ c. rw (e.0, e.1)))

-- of the pending records that last as many are left, by whatever test of their ids
pub skipped_pending : (k : Board) (last : Last) (B : ℕ) (s : Estimator) (p : Id → Bool)
    → count (λ r. p r.id) (skip_heights k last B s).pending ≡ count (λ r. lasts k last B r && p r.id) s.pending
unfolding skip_heights advance_heights lasts skips
skipped_pending k None B s p = refl
skipped_pending k (Some L) B s p = go (B - suc L.0) refl
  where
    go : (n : ℕ) → B - suc L.0 ≡ n → count (λ r. p r.id) (advance_heights k L.0 n s).pending ≡ count (λ r. lasts k (Some L) B r && p r.id) s.pending
    go zero q = count_ext (λ r. p r.id) (λ r. lasts k (Some L) B r && p r.id) (λ r. rw (none_skipped L B q)) s.pending
    go (suc n) q =
        let e = some_skipped L B n q in
        ap (count (λ r. p r.id)) (pending_after k L.0 s n)
        ∙ count_keep (λ r. p r.id) waiting (map (moved k (L.0 + suc n)) s.pending)
        ∙ count_map (λ r. waiting r && p r.id) (moved k (L.0 + suc n)) s.pending
        ∙ count_ext (λ r. waiting (moved k (L.0 + suc n) r) && p r.id) (λ r. lasts k (Some L) B r && p r.id) (λ r. rw (e.0, e.1)) s.pending
