-- Sound memory stays sound under every call, answered 0 or refused, on every lawful board whose factor is above 0 and at most 1: so whatever sound memory
-- a run begins with, fresh or read from a file, no later call of it finds damage. Assumes nothing.
use mathlib.Core.Path.{◌≡◌, refl, sym, ap, ap₂, ◌∙◌}
use mathlib.Core.Bool.{Bool, true, false, not, ◌||◌, cond, true≢false}
use mathlib.Core.List.{List}
use Prim.Native.Nat.{ℕ, suc, ◌%◌, ◌^◌, ◌≤◌, ◌<◌, zero-le}
use native.Mathlib.Nat.{le_trans}
use native.Mathlib.Omega.{arith}
use lib.Dec.{T, leb, ltb, eqb}
use lib.ListN.{length, take, get_or}
use lib.Seq.{get_or-take, length-take-le}
use lib.Pow.{are_bytes}
use lib.Ieee.{nan, binary64, fits}
use borrow.Author.Tests.{leb-true, ltb-false, eq-eqb}
use Rattle.kinds.specs.declared.FeeRate.{FeeRate}
use Rattle.kinds.specs.declared.Height.{Height}
use Rattle.kinds.specs.declared.State.{State}
use Rattle.kinds.specs.Answers.{damaged, below_floor, already_pending, pending_full, absent, bad_list, gap_too_wide, confirmed_full}
use Rattle.rules.specs.Lists.{keep, insert}
use Rattle.rules.specs.Ids.{Id, same, below, dropped, placed}
use Rattle.rules.specs.Ladder.{floor}
use Rattle.rules.specs.Counts.{Counts, places_of_counts}
use Rattle.rules.specs.Board.{Board, Pending, confirmed_size, pending_most, confirmed_most, Lawful}
use Rattle.rules.specs.Records.{sound_table}
use Rattle.rules.specs.Estimator.{Estimator, fresh, is_pending, admit, without, with_pending, tx_entered, tx_left, block_connected}
use Rattle.rules.specs.Memory.{Lent, lent, pending_capacity, confirmed_capacity, pending_records, lay_pending, enough, sound_counts, sound_pending, sound_confirmed, sound, view, state_of, lay}
use Rattle.rules.specs.Calls.{Outcome, refused, accepted, accepted_pending, enter_call, leave_call, gap, widest_gap, ids_of, held_once_listed, block_call}
use Rattle.rules.proofs.All.{All}
use Rattle.rules.proofs.Records.{and_left, and_right, used_within}
use Rattle.rules.proofs.Memory.{Room, state_of_view, lay_of_view}
use Rattle.rules.proofs.Well.{newcomer, Well, well_fresh, well_entered, well_left, well_block}
use Rattle.rules.proofs.Sound.{SoundCounts, view_well, lay_sound}
use Rattle.rules.proofs.Room.{length_keep, length_insert, fewer_recent, fewer_pending}
use Rattle.rules.proofs.Listed.{ids_sized}
use Rattle.floats.specs.Factor.{Factor}
use Rattle.floats.proofs.Count.{Counted}
use Rattle.floats.proofs.Steps.{all_counted, all_sound}
use Rattle.floats.proofs.Steady.{Steady, steady_block, steady_fresh}

-- what the slices' types say: bytes, and numbers of the format
pub record Typed (l : Lent) : Type 0 where
  pub pending : T (are_bytes l.pending)
  pub recent : T (are_bytes l.recent)
  pub confirmed : (i : ℕ) → i < length l.confirmed → T (fits binary64 (get_or l.confirmed i nan))
  pub resolved : (i : ℕ) → i < length l.resolved → T (fits binary64 (get_or l.resolved i nan))

-- ---- sound counts are counts

pub counts_of : (xs : Counts) → sound_counts xs ≡ true → ((i : ℕ) → i < length xs → T (fits binary64 (get_or xs i nan))) → All Counted (take places_of_counts xs)
unfolding sound_counts
counts_of xs h f =
    let many : places_of_counts ≤ length xs = leb-true _ _ (and_left (enough xs) _ h) in
    let long : length (take places_of_counts xs) ≡ places_of_counts = length-take-le places_of_counts xs many in
    all_counted (take places_of_counts xs) (and_right (enough xs) _ h) (λ i l. rw (get_or-take places_of_counts xs i nan (omega arith)) (f i (omega arith)))

pub counts_sound : {e : Estimator} → Steady e → SoundCounts e
counts_sound s = record { confirmed = all_sound s.confirmed; resolved = all_sound s.resolved }

different : (m n : ℕ) → eqb m n ≡ false → ¬ (m ≡ n)
different m n e q = true≢false (sym (eq-eqb m n q) ∙ e)

-- an entry is at most one record more
grown : (i : Id) (x g : ℕ) (rs : List Pending) → length (admit i x g rs) ≤ suc (length rs)
unfolding admit placed dropped
grown i x g rs = go (is_pending i rs || leb pending_most (length rs))
  where
    go : (b : Bool) → length (cond b rs (insert (λ x y. below x.id y.id) (newcomer i x g) (keep (λ r. not (same r.id i)) rs))) ≤ suc (length rs)
    go true = omega arith
    go false = omega (arith, length_insert (λ x y. below x.id y.id) (newcomer i x g) (keep (λ r. not (same r.id i)) rs), length_keep (λ r. not (same r.id i)) rs)

module _ (k : Board) (law : Lawful k) (d : Factor k.decay) where
  -- an outcome whose memory is sound
  abbrev Sound : Outcome Lent → Type 0
  Sound o = sound k o.state o.lent ≡ true

  unless : (b : Bool) (x y : Outcome Lent) → Sound x → (b ≡ false → Sound y) → Sound (cond b x y)
  unless true x y p q = p
  unless false x y p q = q refl

  -- what was judged sound
  module _ (s : State) (l : Lent) (h : sound k s l ≡ true) (t : Typed l) where
    pub steady : Steady (view k s l)
    unfolding sound view
    steady =
        let rest = and_right (sound_counts l.confirmed) _ h in
        record { confirmed = counts_of l.confirmed (and_left (sound_counts l.confirmed) _ h) t.confirmed; resolved = counts_of l.resolved (and_left (sound_counts l.resolved) _ rest) t.resolved }

    pub well : Well (view k s l)
    well = view_well k law s l h t.pending t.recent

    used_pending : length (view k s l).pending ≡ s.pending
    unfolding state_of
    used_pending = ap (λ (x : State). x.pending) (state_of_view k s l)

    pub used_recent : length (view k s l).recent ≡ s.recent
    unfolding state_of
    used_recent = ap (λ (x : State). x.recent) (state_of_view k s l)

    pub room : Room k (view k s l) l
    unfolding sound sound_pending sound_confirmed
    room =
        let tables = and_right (sound_counts l.resolved) _ (and_right (sound_counts l.confirmed) _ h) in
        let p = and_left (sound_table k.table.size pending_most s.pending l.pending) _ (and_left (sound_pending k s.pending l.pending) _ tables) in
        let r = and_right (sound_pending k s.pending l.pending) _ tables in
        record {
          pending = omega (arith, used_pending, used_within k.table.size pending_most s.pending l.pending p);
          recent = omega (arith, used_recent, used_within confirmed_size confirmed_most s.recent l.recent r);
        }

    -- ---- block

    pub block_stays : (ids : List ℕ) (B : Height) → B.0 < 256 ^ 4 → sound k (block_call k s l ids B).state (block_call k s l ids B).lent ≡ true
    unfolding block_call
    block_stays ids B b =
        unless (not (sound k s l)) (refused damaged s l) _ h
        (λ _. unless (not (eqb (length ids % 32) 0)) (refused bad_list s l) _ h
        (λ _. unless (ltb widest_gap (gap s.last B)) (refused gap_too_wide s l) _ h
        (λ _. unless (ltb (confirmed_capacity l.recent) (held_once_listed k (ids_of ids) B.0 (view k s l))) (refused confirmed_full s l) _ h
        (λ q.
        let e = view k s l in
        lay_sound k law (block_connected k (ids_of ids) B.0 e) l
        (well_block k B.0 e (ids_sized ids) b well)
        (counts_sound (steady_block k d (ids_of ids) B.0 e steady))
        (record {
          pending = le_trans (fewer_pending k (ids_of ids) B.0 e) room.pending;
          recent = le_trans (fewer_recent k (ids_of ids) B.0 e) (ltb-false (confirmed_capacity l.recent) (held_once_listed k (ids_of ids) B.0 e) q);
        })))))

    -- ---- enter, leave: the pending table alone

    -- the memory with another pending table, laid
    tabled : List Pending → Outcome Lent
    tabled rs = let o = accepted_pending k s rs l.pending in record { answer = o.answer; state = o.state; lent = lent l.confirmed l.resolved o.lent l.recent }

    own : lay k (view k s l) l ≡ l
    own = lay_of_view k law s l h t.pending t.recent

    tabled_sound : (rs : List Pending) → Well (with_pending rs (view k s l)) → length rs ≤ pending_capacity k l.pending → Sound (tabled rs)
    unfolding tabled lay state_of view
    tabled_sound rs w fit =
        let e = view k s l in
        ap₂ (λ (n : ℕ) (m : Lent). sound k (record { last = s.last; pending = length rs; recent = n }) (lent m.confirmed m.resolved (lay_pending k rs l.pending) m.recent)) (sym used_recent) (sym own)
        ∙ lay_sound k law (with_pending rs e) l w (counts_sound (record { confirmed = steady.confirmed; resolved = steady.resolved })) (record { pending = fit; recent = room.recent })

    abbrev beside : Outcome (List ℕ) → Outcome Lent
    beside o = record { answer = o.answer; state = o.state; lent = lent l.confirmed l.resolved o.lent l.recent }

    unless_beside : (b : Bool) (x y : Outcome (List ℕ)) → Sound (beside x) → (b ≡ false → Sound (beside y)) → Sound (beside (cond b x y))
    unless_beside true x y p q = p
    unless_beside false x y p q = q refl

    pub enter_stays : (i : Id) (rate : FeeRate) (g : Height) → length i ≡ 32 → g.0 < 256 ^ 4 → Sound (beside (enter_call k s l.pending i rate g))
    unfolding enter_call tabled tx_entered view
    enter_stays i rate g n b =
        let xs = l.pending in
        let rs = pending_records k s.pending xs in
        unless_beside (not (sound_pending k s.pending xs)) (refused damaged s xs) _ h
        (λ _. unless_beside (ltb rate.0 floor) (refused below_floor s xs) _ h
        (λ _. unless_beside (is_pending i rs) (refused already_pending s xs) _ h
        (λ _. unless_beside (eqb s.pending (pending_capacity k xs)) (refused pending_full s xs) _ h
        (λ q. tabled_sound (admit i rate.0 g.0 rs) (well_entered i rate.0 g.0 (view k s l) n b well) (admitted_fits i rate.0 g.0 q)))))
      where
        admitted_fits : (i : Id) (x g : ℕ) → eqb s.pending (pending_capacity k l.pending) ≡ false → length (admit i x g (pending_records k s.pending l.pending)) ≤ pending_capacity k l.pending
        admitted_fits i x g q = omega (arith, grown i x g (pending_records k s.pending l.pending), used_pending, room.pending, different s.pending (pending_capacity k l.pending) q)

    pub leave_stays : (i : Id) → Sound (beside (leave_call k s l.pending i))
    unfolding leave_call tabled tx_left view dropped
    leave_stays i =
        let xs = l.pending in
        let rs = pending_records k s.pending xs in
        unless_beside (not (sound_pending k s.pending xs)) (refused damaged s xs) _ h
        (λ _. unless_beside (not (is_pending i rs)) (refused absent s xs) _ h
        (λ _. tabled_sound (without i rs) (well_left i (view k s l) well) (omega (arith, length_keep (λ r. not (same r.id i)) rs, used_pending, room.pending))))

  -- a fresh start that is answered 0, whatever memory is lent
  pub start_sound : (l : Lent) → Sound (accepted k fresh l)
  unfolding fresh
  start_sound l = lay_sound k law fresh l well_fresh (counts_sound steady_fresh) (record { pending = zero-le; recent = zero-le })
