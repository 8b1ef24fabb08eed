-- The listed ids of a block may be confirmed all at once. One id is a batch of its own, and batches join; so neither the order of the list nor how often an id
-- stands in it matters. Assumes nothing.
use mathlib.Core.Path.{◌≡◌, refl, sym, ap, subst, ◌∙◌}
use mathlib.Core.Bool.{Bool, true, false, ◌&&◌, cond}
use mathlib.Core.List.{List, [], ◌∷◌}
use Rattle.std.specs.Prelude.{Option, None, Some}
use Prim.Native.Nat.{ℕ}
use lib.Dec.{eqb}
use Rattle.rules.specs.Lists.{any, keep}
use Rattle.rules.specs.Ids.{Id, same, below, dropped}
use Rattle.rules.specs.Board.{Board, Pending, Confirmed}
use Rattle.rules.specs.Estimator.{Estimator, is_pending, find, become, holds, tx_left, record_confirmation, confirm, confirm_all}
use Rattle.rules.proofs.All.{All}
use Rattle.rules.proofs.Ids.{Up, end, step, same_eq, same_sym, dropped_absent, up_placed}
use Rattle.rules.proofs.Room.{above_absent}
use Rattle.lists.proofs.Counting.{keep_all}
use Rattle.batch.specs.Needed.{listed}
use Rattle.batch.specs.Batch.{gains, in_time, unresolved, raised, fresh_of, merged, marked, unmarked, counted, batch}
use Rattle.batch.proofs.Keeping.{any_none, keep_absent}
use Rattle.batch.proofs.Heights.{holds_only, holds_become, known_by_holding}
use Rattle.batch.proofs.Together.{Rises, same_parts, rises_batch, holds_batch, batch_then}

-- ---- nothing is marked

pub none_raised : (B : ℕ) (cs : List Confirmed) → raised B [] cs ≡ cs
unfolding raised is_pending any
none_raised B [] = refl
none_raised B (c ∷ cs) = ap (λ (l : List Confirmed). c ∷ l) (none_raised B cs)

-- where no pending record is marked, nothing happens
batch_idle : (k : Board) (B : ℕ) (mark : Id → Bool) (s : Estimator) → marked mark s.pending ≡ [] → unmarked mark s.pending ≡ s.pending → batch k B mark s ≡ s
unfolding batch fresh_of counted keep merged gains
batch_idle k B mark s e f = rw (e, f, none_raised B s.recent)

-- ---- one id

-- the pending record of i, if there is one, is the only one that the mark of i finds
data Sought (i : Id) (rs : List Pending) : Option Pending → Type 0 where
  missing : marked (λ j. same j i) rs ≡ [] → any (λ r. same r.id i) rs ≡ false → Sought i rs None
  only : {r : Pending} → marked (λ j. same j i) rs ≡ r ∷ [] → r.id ≡ i → is_pending i rs ≡ true → Sought i rs (Some r)

sought : (i : Id) {rs : List Pending} → Up (λ r. r.id) rs → Sought i rs (find i rs)
unfolding find marked keep is_pending any
sought i end = missing refl refl
sought i (step {r} {rs} a u) = go (same r.id i) refl (find i rs) (sought i u)
  where
    go : (t : Bool) → same r.id i ≡ t → (f : Option Pending) → Sought i rs f → Sought i (r ∷ rs) (cond t (Some r) f)
    go true e f s =
        let q : r.id ≡ i = same_eq r.id i e in
        let no : marked (λ j. same j i) rs ≡ [] = keep_absent (λ r. same r.id i) rs (above_absent (λ r. r.id) i (subst (λ (j : Id). All (λ p. below j p.id ≡ true) rs) q a)) in
        only {r = r} (rw e (ap (λ (l : List Pending). r ∷ l) no)) q (rw e)
    go false e _ (missing m n) = missing (rw e m) (rw e n)
    go false e _ (only {r = f} m q n) = only {r = f} (rw e m) q (rw e n)

module _ (k : Board) (B : ℕ) (i : Id) (s : Estimator) (u : Rises s) where
  abbrev its : Id → Bool
  its j = same j i

  -- its confirmed record holds exactly B: the pending record goes uncounted
  held_uncounted : (f : Option Pending) → Sought i s.pending f → holds i B s.recent ≡ true → counted B s.recent (marked its s.pending) ≡ []
  unfolding counted keep
  held_uncounted _ (missing m n) e = rw m
  held_uncounted _ (only {r} m q n) e = rw (m, ap (λ (j : Id). holds j B s.recent) q ∙ e)

  held_recent : holds i B s.recent ≡ true → s.recent ≡ (batch k B its s).recent
  held_recent e = known_by_holding u.recent (rises_batch k B its u).recent one
    where
      one : (j : Id) (h : ℕ) → holds j h s.recent ≡ holds j h (batch k B its s).recent
      one j h = sym (holds_batch k B its s j h ∙ go (same j i) refl (is_pending j s.pending))
        where
          go : (t : Bool) → same j i ≡ t → (v : Bool) → cond (t && v) (eqb B h) (holds j h s.recent) ≡ holds j h s.recent
          go true q true = sym (ap (λ (a : Id). holds a h s.recent) (same_eq j i q) ∙ holds_only i B h u.recent e)
          go true q false = refl
          go false q v = refl

  held_is : holds i B s.recent ≡ true → tx_left i s ≡ batch k B its s
  unfolding tx_left dropped batch unmarked gains
  held_is e =
      let no : counted B s.recent (marked its s.pending) ≡ [] = held_uncounted (find i s.pending) (sought i u.pending) e in
      same_parts s refl (held_recent e) (sym (ap (λ (l : List Pending). gains (in_time k B) l s.confirmed) no)) (sym (ap (λ (l : List Pending). gains unresolved l s.resolved) no))

  -- it is pending, and its confirmed record, if there is one, holds another height
  noted_recent : is_pending i s.pending ≡ true → become i B s.recent ≡ (batch k B its s).recent
  noted_recent n = known_by_holding (up_placed (λ c. c.id) (record { id = i; height = B }) u.recent) (rises_batch k B its u).recent one
    where
      one : (j : Id) (h : ℕ) → holds j h (become i B s.recent) ≡ holds j h (batch k B its s).recent
      one j h = holds_become i B j h s.recent ∙ go (same i j) refl ∙ sym (holds_batch k B its s j h)
        where
          go : (t : Bool) → same i j ≡ t → cond t (eqb B h) (holds j h s.recent) ≡ cond (same j i && is_pending j s.pending) (eqb B h) (holds j h s.recent)
          go true q = rw (sym (same_sym i j) ∙ q, sym (ap (λ (a : Id). is_pending a s.pending) (same_eq i j q)) ∙ n)
          go false q = rw (sym (same_sym i j) ∙ q)

  counts_is : (f : Option Pending) → Sought i s.pending f → holds i B s.recent ≡ false → record_confirmation k B i f s ≡ batch k B its s
  unfolding record_confirmation dropped batch unmarked counted keep gains
  counts_is _ (missing m n) e = sym (batch_idle k B its s m (dropped_absent (λ r. r.id) i s.pending n))
  counts_is _ (only {r} m q n) e =
      let one : counted B s.recent (marked its s.pending) ≡ r ∷ [] = rw m (alone r (ap (λ (j : Id). holds j B s.recent) q ∙ e)) in
      same_parts s refl (noted_recent n) (sym (ap (λ (l : List Pending). gains (in_time k B) l s.confirmed) one)) (sym (ap (λ (l : List Pending). gains unresolved l s.resolved) one))
    where
      alone : (r : Pending) → holds r.id B s.recent ≡ false → counted B s.recent (r ∷ []) ≡ r ∷ []
      alone r e = rw e

  confirm_is : confirm k B i s ≡ batch k B (λ j. same j i) s
  unfolding confirm
  confirm_is = go (holds i B s.recent) refl
    where
      go : (t : Bool) → holds i B s.recent ≡ t → cond t (tx_left i s) (record_confirmation k B i (find i s.pending) s) ≡ batch k B its s
      go true e = held_is e
      go false e = counts_is (find i s.pending) (sought i u.pending) e

-- ---- all of them

pub confirm_all_is : (k : Board) (B : ℕ) (ids : List Id) (s : Estimator) → Rises s → confirm_all k B ids s ≡ batch k B (listed ids) s
unfolding confirm_all listed any marked unmarked
confirm_all_is k B [] s u = sym (batch_idle k B (λ j. false) s (keep_absent (λ r. false) s.pending (any_none s.pending)) (keep_all s.pending))
confirm_all_is k B (i ∷ ids) s u =
    ap (confirm_all k B ids) (confirm_is k B i s u)
    ∙ confirm_all_is k B ids (batch k B (λ j. same j i) s) (rises_batch k B (λ j. same j i) u)
    ∙ batch_then k B (λ j. same j i) (listed ids) s u
