-- No call reads or writes what is lent beyond the capacities: cut off there, memory gives the same outcome, and behind it the rest. Assumes nothing.
use mathlib.Core.Path.{◌≡◌, refl, sym, ap, ap₂, ◌∙◌, subst}
use mathlib.Core.Bool.{Bool, true, false, ◌&&◌, not, cond, true≢false}
use mathlib.Core.List.{List}
use Prim.Native.Nat.{ℕ, ◌%◌}
use lib.Dec.{ltb, eqb}
use lib.ListN.{length, take, take-append-drop}
use lib.Ieee.{Float}
use borrow.Author.Tests.{not-false}
use Rattle.kinds.specs.declared.FeeRate.{FeeRate}
use Rattle.kinds.specs.declared.Height.{Height}
use Rattle.kinds.specs.declared.Blocks.{Blocks}
use Rattle.kinds.specs.declared.State.{State}
use Rattle.kinds.specs.Answers.{Answer, done, damaged, below_floor, already_pending, pending_full, absent, bad_list, gap_too_wide, confirmed_full}
use Rattle.rules.specs.Ids.{Id}
use Rattle.rules.specs.Ladder.{floor}
use Rattle.rules.specs.Counts.{places_of_counts}
use Rattle.rules.specs.Board.{Board, Pending, confirmed_size, pending_most, confirmed_most}
use Rattle.rules.specs.Estimator.{Estimator, fresh, is_pending, admit, without, block_connected}
use Rattle.rules.specs.Estimate.{estimate}
use Rattle.rules.specs.Memory.{Lent, enough, pending_capacity, confirmed_capacity, pending_records, sound_counts, sound_pending, sound, view, state_of}
use Rattle.rules.specs.Calls.{Outcome, outcome, refused, accepted, accepted_pending, gap, widest_gap, ids_of, held_once_listed, start_call, enter_call, leave_call, block_call, rate_answer, estimate_call}
use Rattle.rules.specs.Beyond.{Cut, Confined, pending_room, confirmed_room, of_lent, of_pending, BeyondPromise}
use Rattle.rules.proofs.Inner.{same_places, same_pending, same_sound_pending, same_lay_pending, same_all, same_view, same_lay, same_enough, same_counts, same_estimate, long_enough}

-- o is an outcome on l, and p the same on what stands within it
pub record Met {L : Type 0} (c : Cut L) (l : L) (o p : Outcome L) : Type 0 where
  pub is : o ≡ outcome p.answer p.state (c.before p.lent (c.beyond l))

module _ {L : Type 0} (c : Cut L) where
  -- a refusal changes nothing, there and here
  pub kept : (l : L) → c.before (c.inner l) (c.beyond l) ≡ l → (a : Answer) (s : State) → Met c l (refused a s l) (refused a s (c.inner l))
  kept l whole a s = record { is = ap (outcome a s) (sym whole) }

  pub confined : (call : L → Outcome L) → ((l : L) → Met c l (call l) (call (c.inner l))) → Confined c call
  confined call met = record {
    cut_off = λ l. (met l).is;
    alike = λ l m e. record {
      answer = ap (λ (o : Outcome L). o.answer) (met l).is ∙ ap (λ (x : L). (call x).answer) e ∙ sym (ap (λ (o : Outcome L). o.answer) (met m).is);
      state = ap (λ (o : Outcome L). o.state) (met l).is ∙ ap (λ (x : L). (call x).state) e ∙ sym (ap (λ (o : Outcome L). o.state) (met m).is);
      inner = (call (c.inner m)).lent;
      one = ap (λ (o : Outcome L). o.lent) (met l).is ∙ ap (λ (x : L). c.before (call x).lent (c.beyond l)) e;
      other = ap (λ (o : Outcome L). o.lent) (met m).is;
    };
  }

-- a test that comes out the same
pub choose : {L : Type 0} {c : Cut L} {l : L} (t u : Bool) {x y x' y' : Outcome L} → u ≡ t → Met c l x x' → (t ≡ false → Met c l y y') → Met c l (cond t x y) (cond u x' y')
choose true true e p q = p
choose false false e p q = q refl
choose true false e p q = absurd (true≢false (sym e))
choose false true e p q = absurd (true≢false e)

module _ (k : Board) where
  -- ---- of all four slices

  pub refused_met : (l : Lent) (a : Answer) (s : State) → Met (of_lent k) l (refused a s l) (refused a s ((of_lent k).inner l))
  refused_met l a s =
      kept (of_lent k) l (rw (take-append-drop places_of_counts l.confirmed, take-append-drop places_of_counts l.resolved, take-append-drop (pending_room k l.pending) l.pending, take-append-drop (confirmed_room l.recent) l.recent)) a s

  pub laid_met : (l : Lent) (e : Estimator) → Met (of_lent k) l (accepted k e l) (accepted k e ((of_lent k).inner l))
  laid_met l e = record { is = ap (outcome done (state_of e)) (same_lay k l e) }

  -- the lengths of the count slices
  pub same_long : (l : Lent) → (enough ((of_lent k).inner l).confirmed && enough ((of_lent k).inner l).resolved) ≡ (enough l.confirmed && enough l.resolved)
  same_long l = ap₂ (λ (a b : Bool). a && b) (same_enough l.confirmed) (same_enough l.resolved)

  start_met : (l : Lent) → Met (of_lent k) l (start_call k l) (start_call k ((of_lent k).inner l))
  unfolding start_call
  start_met l = choose (enough l.confirmed && enough l.resolved) _ (same_long l) (laid_met l fresh) (λ _. refused_met l damaged (state_of fresh))

  block_met : (s : State) (ids : List ℕ) (B : Height) (l : Lent) → Met (of_lent k) l (block_call k s l ids B) (block_call k s ((of_lent k).inner l) ids B)
  unfolding block_call
  block_met s ids B l =
      choose (not (sound k s l)) _ (ap not (same_all k l s)) (refused_met l damaged s)
      (λ h.
      let p = not-false (sound k s l) h in
      let places = same_places confirmed_size confirmed_most l.recent in
      let listed = ap (held_once_listed k (ids_of ids) B.0) (same_view k l s p) in
      choose (not (eqb (length ids % 32) 0)) _ refl (refused_met l bad_list s)
      (λ _. choose (ltb widest_gap (gap s.last B)) _ refl (refused_met l gap_too_wide s)
      (λ _. choose (ltb (confirmed_capacity l.recent) (held_once_listed k (ids_of ids) B.0 (view k s l))) _ (ap₂ ltb places listed) (refused_met l confirmed_full s)
      (λ _. subst (λ (e : Estimator). Met (of_lent k) l (accepted k (block_connected k (ids_of ids) B.0 (view k s l)) l) (accepted k (block_connected k (ids_of ids) B.0 e) ((of_lent k).inner l))) (sym (same_view k l s p)) (laid_met l (block_connected k (ids_of ids) B.0 (view k s l)))))))

  -- ---- of the pending table alone

  pending_kept : (xs : List ℕ) (a : Answer) (s : State) → Met (of_pending k) xs (refused a s xs) (refused a s ((of_pending k).inner xs))
  pending_kept xs a s = kept (of_pending k) xs (take-append-drop (pending_room k xs) xs) a s

  pending_laid : (xs : List ℕ) (s : State) (rs : List Pending) → Met (of_pending k) xs (accepted_pending k s rs xs) (accepted_pending k s rs ((of_pending k).inner xs))
  pending_laid xs s rs = record { is = ap (outcome done (record { last = s.last; pending = length rs; recent = s.recent })) (same_lay_pending k xs rs) }

  -- what comes after the judging of the table, which finds its records
  judged_met : (s : State) (xs : List ℕ) (f : List Pending → List ℕ → Outcome (List ℕ))
      → ((rs : List Pending) → Met (of_pending k) xs (f rs xs) (f rs ((of_pending k).inner xs)))
      → Met (of_pending k) xs (cond (not (sound_pending k s.pending xs)) (refused damaged s xs) (f (pending_records k s.pending xs) xs))
      (cond (not (sound_pending k s.pending ((of_pending k).inner xs))) (refused damaged s ((of_pending k).inner xs)) (f (pending_records k s.pending ((of_pending k).inner xs)) ((of_pending k).inner xs)))
  judged_met s xs f met =
      choose (not (sound_pending k s.pending xs)) _ (ap not (same_sound_pending k xs s.pending)) (pending_kept xs damaged s)
      (λ h.
      let p = not-false (sound_pending k s.pending xs) h in
      subst (λ (rs : List Pending). Met (of_pending k) xs (f (pending_records k s.pending xs) xs) (f rs ((of_pending k).inner xs))) (sym (same_pending k xs s.pending p)) (met (pending_records k s.pending xs)))

  enter_met : (s : State) (i : Id) (rate : FeeRate) (h : Height) (xs : List ℕ) → Met (of_pending k) xs (enter_call k s xs i rate h) (enter_call k s ((of_pending k).inner xs) i rate h)
  unfolding enter_call
  enter_met s i rate h xs =
      judged_met s xs (λ rs ys. cond (ltb rate.0 floor) (refused below_floor s ys) (cond (is_pending i rs) (refused already_pending s ys) (cond (eqb s.pending (pending_capacity k ys)) (refused pending_full s ys) (accepted_pending k s (admit i rate.0 h.0 rs) ys))))
      (λ rs. choose (ltb rate.0 floor) _ refl (pending_kept xs below_floor s)
      (λ _. choose (is_pending i rs) _ refl (pending_kept xs already_pending s)
      (λ _. choose (eqb s.pending (pending_capacity k xs)) _ (ap (eqb s.pending) (same_places k.table.size pending_most xs)) (pending_kept xs pending_full s)
      (λ _. pending_laid xs s (admit i rate.0 h.0 rs)))))

  leave_met : (s : State) (i : Id) (xs : List ℕ) → Met (of_pending k) xs (leave_call k s xs i) (leave_call k s ((of_pending k).inner xs) i)
  unfolding leave_call
  leave_met s i xs =
      judged_met s xs (λ rs ys. cond (not (is_pending i rs)) (refused absent s ys) (accepted_pending k s (without i rs) ys))
      (λ rs. choose (not (is_pending i rs)) _ refl (pending_kept xs absent s) (λ _. pending_laid xs s (without i rs)))

  -- ---- of the counts alone

  estimate_met : (s : State) (xs ys : List Float) (target : Blocks) → estimate_call k s xs ys target ≡ estimate_call k s (take places_of_counts xs) (take places_of_counts ys) target
  unfolding estimate_call
  estimate_met s xs ys target = sym (rw (same_counts xs, same_counts ys) (go (sound_counts xs) (sound_counts ys) refl refl))
    where
      go : (a b : Bool) → sound_counts xs ≡ a → sound_counts ys ≡ b
          → cond (a && b) (rate_answer (estimate k target.0 (take places_of_counts xs) (take places_of_counts ys))) damaged ≡ cond (a && b) (rate_answer (estimate k target.0 xs ys)) damaged
      go true true p q = ap rate_answer (same_estimate k target.0 xs ys (long_enough xs p) (long_enough ys q))
      go true false p q = refl
      go false b p q = refl

  pub beyond_promise : BeyondPromise k
  beyond_promise = record {
    start = confined (of_lent k) (start_call k) start_met;
    enter = λ s i rate h. confined (of_pending k) (λ xs. enter_call k s xs i rate h) (enter_met s i rate h);
    leave = λ s i. confined (of_pending k) (λ xs. leave_call k s xs i) (leave_met s i);
    block = λ s ids B. confined (of_lent k) (λ l. block_call k s l ids B) (block_met s ids B);
    estimate = estimate_met;
  }
