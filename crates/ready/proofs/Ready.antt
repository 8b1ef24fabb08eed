-- Sound memory is ready; a step that keeps the estimator well-formed and leaves room keeps memory ready; and a step after a step is a step of both.
-- Assumes nothing.
use mathlib.Core.Path.{◌≡◌, sym, ap, ap₂, subst, ◌∙◌}
use mathlib.Core.Bool.{true}
use native.Mathlib.Omega.{arith}
use lib.Dec.{T}
use lib.ListN.{length}
use lib.Pow.{are_bytes}
use Rattle.kinds.specs.declared.State.{State}
use Rattle.kinds.specs.Answers.{done}
use Rattle.rules.specs.Board.{Board, Lawful, confirmed_size, pending_most, confirmed_most}
use Rattle.rules.specs.Records.{sound_table}
use Rattle.rules.specs.Estimator.{Estimator}
use Rattle.rules.specs.Memory.{Lent, pending_capacity, confirmed_capacity, lay_pending, lay_confirmed, sound_counts, sound_pending, sound_confirmed, sound, view, state_of, lay}
use Rattle.rules.specs.Calls.{Outcome, outcome, accepted}
use Rattle.rules.proofs.Records.{and_left, and_right, used_within}
use Rattle.rules.proofs.Memory.{Room, same_capacity, confirmed_kept, view_of_lay, lay_over, lay_of_view, state_of_view}
use Rattle.rules.proofs.Well.{Well}
use Rattle.rules.proofs.Sound.{well_fits, view_well}
use Rattle.ready.specs.Ready.{Ready}

module _ (k : Board) (law : Lawful k) where
  pub ready_sound : (s : State) (l : Lent) → sound k s l ≡ true → T (are_bytes l.pending) → T (are_bytes l.recent) → Ready k s l
  unfolding sound sound_pending sound_confirmed state_of
  ready_sound s l h b d =
      let tables = and_right (sound_counts l.resolved) _ (and_right (sound_counts l.confirmed) _ h) in
      let p = and_left (sound_table k.table.size pending_most s.pending l.pending) _ (and_left (sound_pending k s.pending l.pending) _ tables) in
      let r = and_right (sound_pending k s.pending l.pending) _ tables in
      let n : length (view k s l).pending ≡ s.pending = ap (λ (t : State). t.pending) (state_of_view k s l) in
      let m : length (view k s l).recent ≡ s.recent = ap (λ (t : State). t.recent) (state_of_view k s l) in
      record {
        own = lay_of_view k law s l h b d;
        well = view_well k law s l h b d;
        room = record {
          pending = omega (arith, used_within k.table.size pending_most s.pending l.pending p);
          recent = omega (arith, used_within confirmed_size confirmed_most s.recent l.recent r);
        };
      }

  -- what was laid is seen
  pub seen : (e : Estimator) (l : Lent) → Well e → view k (state_of e) (lay k e l) ≡ e
  seen e l w = view_of_lay k law e l (well_fits w)

  -- what is laid over it does not show it
  pub relaid : (e f : Estimator) (l : Lent) → Well e → Room k e l → lay k f (lay k e l) ≡ lay k f l
  relaid e f l w r = lay_over k law e f l (well_fits w) r

  -- the tables hold as many as before
  pub same_pending : (e : Estimator) (l : Lent) → Well e → Room k e l → pending_capacity k (lay k e l).pending ≡ pending_capacity k l.pending
  unfolding lay lay_pending
  same_pending e l w r = same_capacity law.kept pending_most l.pending (well_fits w).pending r.pending

  pub same_recent : (e : Estimator) (l : Lent) → Well e → Room k e l → confirmed_capacity (lay k e l).recent ≡ confirmed_capacity l.recent
  unfolding lay lay_confirmed
  same_recent e l w r = same_capacity confirmed_kept confirmed_most l.recent w.recent r.recent

  -- a well-formed estimator that has room, laid
  pub ready_laid : (e : Estimator) (l : Lent) → Well e → Room k e l → Ready k (state_of e) (lay k e l)
  ready_laid e l w r =
      let v = seen e l w in
      record {
        own = ap (λ (x : Estimator). lay k x (lay k e l)) v ∙ relaid e e l w r;
        well = subst Well (sym v) w;
        room = subst (λ (x : Estimator). Room k x (lay k e l)) (sym v)
            (record { pending = omega (arith, r.pending, same_pending e l w r); recent = omega (arith, r.recent, same_recent e l w r) });
      }

  -- ---- one step after the other

  -- what a step leaves is ready for the next
  pub ready_after : {s : State} {l : Lent} (m : Lent) (e : Estimator) → Well e → Room k e m → outcome done s l ≡ accepted k e m → Ready k s l
  ready_after {s} {l} m e w r q = subst (λ (o : Outcome Lent). Ready k o.state o.lent) (sym q) (ready_laid e m w r)

  -- what it holds
  pub seen_after : {s : State} {l : Lent} (m : Lent) (e : Estimator) → Well e → outcome done s l ≡ accepted k e m → view k s l ≡ e
  seen_after {s} {l} m e w q = ap (λ (o : Outcome Lent). view k o.state o.lent) q ∙ seen e m w

  -- a step after a step, told of the memory before both
  pub step_after : {s t : State} {l n : Lent} (m : Lent) (e : Estimator) (f : Estimator → Estimator) → Well e → Room k e m
      → outcome done s l ≡ accepted k e m → outcome done t n ≡ accepted k (f (view k s l)) l → outcome done t n ≡ accepted k (f e) m
  step_after {s} {t} {l} {n} m e f w r q p =
      p
      ∙ ap (λ (x : Estimator). accepted k (f x) l) (seen_after m e w q)
      ∙ ap (λ (x : Lent). outcome done (state_of (f e)) x) (ap (λ (o : Outcome Lent). lay k (f e) o.lent) q ∙ relaid e (f e) m w r)

  -- no step at all
  pub step_none : (s : State) (l : Lent) → Ready k s l → outcome done s l ≡ accepted k (view k s l) l
  step_none s l r = ap₂ (λ (t : State) (m : Lent). outcome done t m) (sym (state_of_view k s l)) (sym r.own)
