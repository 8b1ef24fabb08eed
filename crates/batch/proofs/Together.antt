-- A batch of some marks and then a batch of others is one batch of both: the pending records that the first left are the unmarked ones, each is counted as if
-- the first had not been, and the confirmed records hold B for every id that went. Assumes nothing.
use mathlib.Core.Path.{◌≡◌, refl, sym, ap, ap₂, ◌∙◌}
use mathlib.Core.Bool.{Bool, true, false, not, ◌&&◌, ◌||◌, cond, and-or_distrib_right}
use mathlib.Core.List.{List}
use Prim.Native.Nat.{ℕ}
use lib.Dec.{eqb}
use Rattle.rules.specs.Lists.{keep}
use Rattle.rules.specs.Ids.{Id}
use Rattle.rules.specs.Counts.{Counts}
use Rattle.rules.specs.Board.{Board, Pending, Confirmed}
use Rattle.rules.specs.Estimator.{Estimator, is_pending, holds}
use Rattle.rules.proofs.Ids.{Up, up_keep}
use Rattle.rules.proofs.Well.{Well}
use Rattle.batch.specs.Batch.{gains, in_time, unresolved, marked, unmarked, counted, batch}
use Rattle.lists.proofs.Lists.{keep_ext}
use Rattle.batch.proofs.Keeping.{keep_keep, has_kept}
use Rattle.batch.proofs.Gains.{gains_both}
use Rattle.batch.proofs.Heights.{known_by_holding}
use Rattle.batch.proofs.Merging.{holds_merged, up_together}

-- the ids of both tables rise
pub record Rises (s : Estimator) : Type 0 where
  pub pending : Up (λ r. r.id) s.pending
  pub recent : Up (λ c. c.id) s.recent

pub well_rises : {s : Estimator} → Well s → Rises s
well_rises w = record { pending = w.pending_up; recent = w.recent_up }

-- five parts make an estimator
pub same_parts : (s : Estimator) {rs qs : List Pending} {cs ds : List Confirmed} {xs us ys vs : Counts} → rs ≡ qs → cs ≡ ds → xs ≡ us → ys ≡ vs
    → ◌≡◌ {A = Estimator} (record { last = s.last; pending = rs; recent = cs; confirmed = xs; resolved = ys }) (record { last = s.last; pending = qs; recent = ds; confirmed = us; resolved = vs })
same_parts s e f g h = rw (e, f, g, h)

module _ (k : Board) (B : ℕ) where
  pub rises_batch : (mark : Id → Bool) {s : Estimator} → Rises s → Rises (batch k B mark s)
  unfolding batch marked unmarked
  rises_batch mark r =
      record {
        pending = up_keep (λ r. r.id) (λ r. not (mark r.id)) r.pending;
        recent = up_together B (up_keep (λ r. r.id) (λ r. mark r.id) r.pending) r.recent;
      }

  -- what it holds of j
  pub holds_batch : (mark : Id → Bool) (s : Estimator) (j : Id) (h : ℕ) → holds j h (batch k B mark s).recent ≡ cond (mark j && is_pending j s.pending) (eqb B h) (holds j h s.recent)
  unfolding batch marked is_pending
  holds_batch mark s j h =
      holds_merged B j h (keep (λ r. mark r.id) s.pending) s.recent
      ∙ ap (λ (t : Bool). cond t (eqb B h) (holds j h s.recent)) (has_kept (λ r. r.id) mark j s.pending)

  module _ (p q : Id → Bool) (s : Estimator) where
    either : Id → Bool
    either i = p i || q i

    next : Estimator
    next = batch k B p s

    same_pending : unmarked q (unmarked p s.pending) ≡ unmarked either s.pending
    unfolding unmarked either
    same_pending =
        keep_keep (λ r. not (q r.id)) (λ r. not (p r.id)) s.pending
        ∙ keep_ext (λ r. not (p r.id) && not (q r.id)) (λ r. not (p r.id || q r.id)) s.pending (λ r. neither (p r.id) (q r.id))
      where
        neither : (a b : Bool) → (not a && not b) ≡ not (a || b)
        neither true b = refl
        neither false b = refl

    same_counts : (test : Pending → ℕ → Bool) (xs : Counts)
        → gains test (counted B next.recent (marked q (unmarked p s.pending))) (gains test (counted B s.recent (marked p s.pending)) xs) ≡ gains test (counted B s.recent (marked either s.pending)) xs
    unfolding counted marked unmarked either next
    same_counts test xs =
        ap₂ (λ (a b : List Pending). gains test a (gains test b xs)) later (keep_keep (λ r. not (held r)) (λ r. p r.id) s.pending)
        ∙ gains_both test (λ r. p r.id && not (held r)) (λ r. q r.id && not (held r)) s.pending xs
        ∙ ap (λ (a : List Pending). gains test a xs) (sym all)
      where
        held : Pending → Bool
        held r = holds r.id B s.recent

        held_next : Pending → Bool
        held_next r = holds r.id B (batch k B p s).recent

        later : keep (λ r. not (held_next r)) (keep (λ r. q r.id) (keep (λ r. not (p r.id)) s.pending)) ≡ keep (λ r. not (p r.id && not (held r)) && (q r.id && not (held r))) s.pending
        later =
            ap (keep (λ r. not (held_next r))) (keep_keep (λ r. q r.id) (λ r. not (p r.id)) s.pending)
            ∙ keep_keep (λ r. not (held_next r)) (λ r. not (p r.id) && q r.id) s.pending
            ∙ keep_ext (λ r. (not (p r.id) && q r.id) && not (held_next r)) (λ r. not (p r.id && not (held r)) && (q r.id && not (held r))) s.pending one
          where
            one : (r : Pending) → ((not (p r.id) && q r.id) && not (held_next r)) ≡ (not (p r.id && not (held r)) && (q r.id && not (held r)))
            one r = go (p r.id) refl
              where
                hidden : (b c : Bool) → false ≡ (not (not b) && (c && not b))
                hidden true true = refl
                hidden true false = refl
                hidden false c = refl

                go : (t : Bool) → p r.id ≡ t → ((not t && q r.id) && not (held_next r)) ≡ (not (t && not (held r)) && (q r.id && not (held r)))
                go true e = hidden (held r) (q r.id)
                go false e =
                    let as_before : held_next r ≡ held r = holds_batch p s r.id B ∙ ap (λ (t : Bool). cond (t && is_pending r.id s.pending) (eqb B B) (held r)) e in
                    rw as_before

        all : keep (λ r. not (held r)) (keep (λ r. p r.id || q r.id) s.pending) ≡ keep (λ r. (p r.id && not (held r)) || (q r.id && not (held r))) s.pending
        all =
            keep_keep (λ r. not (held r)) (λ r. p r.id || q r.id) s.pending
            ∙ keep_ext (λ r. (p r.id || q r.id) && not (held r)) (λ r. (p r.id && not (held r)) || (q r.id && not (held r))) s.pending (λ r. and-or_distrib_right (p r.id) (q r.id) (not (held r)))

    same_held : (j : Id) (h : ℕ) → holds j h (batch k B q (batch k B p s)).recent ≡ holds j h (batch k B (λ i. p i || q i) s).recent
    unfolding batch unmarked is_pending
    same_held j h =
        holds_batch q (batch k B p s) j h
        ∙ ap₂ (λ (a b : Bool). cond (q j && a) (eqb B h) b) (has_kept (λ r. r.id) (λ i. not (p i)) j s.pending) (holds_batch p s j h)
        ∙ go (p j) (q j) (is_pending j s.pending)
        ∙ sym (holds_batch (λ i. p i || q i) s j h)
      where
        go : (a b c : Bool) → cond (b && (not a && c)) (eqb B h) (cond (a && c) (eqb B h) (holds j h s.recent)) ≡ cond ((a || b) && c) (eqb B h) (holds j h s.recent)
        go true true true = refl
        go true true false = refl
        go true false c = refl
        go false true true = refl
        go false true false = refl
        go false false c = refl

    same_recent : Rises s → (batch k B q (batch k B p s)).recent ≡ (batch k B (λ i. p i || q i) s).recent
    same_recent r = known_by_holding (rises_batch q (rises_batch p r)).recent (rises_batch (λ i. p i || q i) r).recent same_held

    pub batch_then : Rises s → batch k B q (batch k B p s) ≡ batch k B (λ i. p i || q i) s
    unfolding either next batch
    batch_then r = same_parts s same_pending (same_recent r) (same_counts (in_time k B) s.confirmed) (same_counts unresolved s.resolved)
