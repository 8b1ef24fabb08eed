-- What an advance of ready memory leaves is the advanced estimator, laid: counts and tables each by their own law. Assumes nothing.
use mathlib.Core.Path.{◌≡◌, sym, ap, subst, ◌∙◌}
use mathlib.Core.List.{List, ◌++◌, map}
use Prim.Native.Nat.{ℕ, ◌-◌, ◌*◌, ◌≤◌}
use native.Mathlib.Nat.{le_refl}
use native.Mathlib.Omega.{arith}
use lib.Dec.{T, leb, ltb}
use lib.ListN.{length, take, drop, length-map}
use lib.Seq.{take_at, drop_at, length-take-le}
use lib.Pow.{are_bytes}
use lib.Ieee.{Float}
use Rattle.kinds.specs.declared.Height.{Height}
use Rattle.kinds.specs.declared.Horizon.{Horizon}
use Rattle.std.specs.Prelude.{Some}
use Rattle.kinds.specs.declared.State.{State}
use Rattle.kinds.specs.Answers.{done}
use Rattle.rules.specs.Lists.{keep}
use Rattle.rules.specs.Counts.{Counts, columns, places_of_counts, apply_decay}
use Rattle.rules.specs.Records.{records, laid}
use Rattle.rules.specs.Board.{Board, Pending, board_of, pending_most, confirmed_size, confirmed_most, confirmed_of}
use Rattle.rules.specs.Estimator.{expire_targets, moved, advance_height}
use Rattle.rules.specs.Memory.{Lent, lent, pending_records, confirmed_records, lay_pending, lay_confirmed, view, state_of, lay}
use Rattle.rules.specs.Calls.{outcome, accepted}
use Rattle.rules.proofs.All.{All}
use Rattle.rules.proofs.Records.{Sized, length_records, sized_records, used_within}
use Rattle.rules.proofs.Memory.{confirmed_kept}
use Rattle.rules.proofs.Boards.{board_lawful, size_least, read_is}
use Rattle.rules.proofs.Well.{WellPending, length_expire}
use Rattle.rules.proofs.Room.{length_keep}
use Rattle.table.proofs.Records.{sized_keep, sized_map}
use Rattle.table.proofs.Sound.{sound_told, sound_room}
use Rattle.table.proofs.Edited.{passed}
use Rattle.expiry.specs.Fields.{raised, waiting}
use Rattle.expiry.proofs.Fields.{length_raised}
use Rattle.expiry.proofs.Steps.{pending_expired, confirmed_pruned}
use Rattle.decay.specs.Decay.{often}
use Rattle.decay.proofs.Often.{once}
use Rattle.ready.specs.Ready.{Ready}
use Rattle.ready.proofs.Facts.{resolved_places, pending_sound, recent_sound}
use Rattle.expiry.proofs.Expiry.{expire_first}

-- ---- counts, decayed after expiry

decayed : (d : Float) (xs E R : Counts) → length E ≡ places_of_counts → xs ≡ E ++ R → apply_decay d (take places_of_counts xs) ++ drop places_of_counts xs ≡ apply_decay d E ++ R
decayed d xs E R n e = rw (e, take_at E R places_of_counts n, drop_at E R places_of_counts n)

-- one height is one decay
plain : (d : Float) (xs : Counts) → map (often 1 d) (take places_of_counts xs) ++ drop places_of_counts xs ≡ apply_decay d (take places_of_counts xs) ++ drop places_of_counts xs
plain d xs = ap (λ (ys : Counts). ys ++ drop places_of_counts xs) (once d (take places_of_counts xs))

-- the same state and the same memory
same : {h : Height} {p q m n : ℕ} {c c' r r' : List Float} {x x' y y' : List ℕ} → p ≡ q → m ≡ n → c ≡ c' → r ≡ r' → x ≡ x' → y ≡ y'
    → outcome done (record { last = Some h; pending = p; recent = m }) (lent c r x y) ≡ outcome done (record { last = Some h; pending = q; recent = n }) (lent c' r' x' y')
same a b d e f g = cc

module _ (on : Horizon) (s : State) (l : Lent) (r : Ready (board_of on) s l) where
  abbrev k : Board
  k = board_of on

  abbrev size : ℕ
  size = k.table.size

  -- room for what the passes ask
  pub pending_room : s.pending * size ≤ length l.pending
  pending_room = sound_room size pending_most s.pending l.pending (sound_told _ _ _ _ (pending_sound k (board_lawful on) s l r))

  pub recent_room : s.recent * confirmed_size ≤ length l.recent
  recent_room = sound_room confirmed_size confirmed_most s.recent l.recent (sound_told _ _ _ _ (recent_sound k (board_lawful on) s l r))

  pub pending_well : All WellPending (pending_records k s.pending l.pending)
  unfolding view
  pending_well = r.well.pending

  module _ (h : ℕ) where
    -- what is left of each table
    abbrev expired : List (List ℕ)
    expired = keep waiting (map (raised k.width h) (records size s.pending l.pending))

    abbrev pruned : List (List ℕ)
    pruned = keep (λ b. leb (h - (confirmed_of b).height) columns) (records confirmed_size s.recent l.recent)

    -- the rules' expiry, by the board's own reading
    expired_read : (bs : List (List ℕ)) → Sized size bs
        → map k.table.read (keep waiting (map (raised k.width h) bs)) ≡ keep (λ q. ltb q.through columns) (map (moved k h) (map k.table.read bs))
    expired_read bs z =
        subst (λ (f : List ℕ → Pending). map f (keep waiting (map (raised k.width h) bs)) ≡ keep (λ q. ltb q.through columns) (map (moved k h) (map f bs)))
        (sym (read_is on)) (pending_expired k h size (size_least on) bs z)

    pending_left : (n : ℕ) (ys : List ℕ) → T (are_bytes ys) → n ≡ length expired → ys ≡ laid size s.pending expired l.pending
        → (n ≡ length (advance_height k h (view k s l)).pending) × (ys ≡ lay_pending k (advance_height k h (view k s l)).pending l.pending)
    unfolding lay_pending advance_height view pending_records
    pending_left n ys b count e =
        let bs : List (List ℕ) = records size s.pending l.pending in
        let z = sized_records size s.pending l.pending pending_room in
        let few : length expired ≤ s.pending =
        omega (arith, length_keep waiting (map (raised k.width h) bs), length-map bs (raised k.width h), length_records size s.pending l.pending) in
        passed (board_lawful on).kept pending_most s.pending s.pending n expired _ l.pending ys (pending_sound k (board_lawful on) s l r) b (le_refl _) (used_within _ _ _ _ (pending_sound k (board_lawful on) s l r)) few
        (sized_keep waiting size (map (raised k.width h) bs) (sized_map (raised k.width h) size bs (length_raised size k.width h) z)) (expired_read bs z) count e

    recent_left : (n : ℕ) (ys : List ℕ) → T (are_bytes ys) → n ≡ length pruned → ys ≡ laid confirmed_size s.recent pruned l.recent
        → (n ≡ length (advance_height k h (view k s l)).recent) × (ys ≡ lay_confirmed (advance_height k h (view k s l)).recent l.recent)
    unfolding lay_confirmed advance_height view confirmed_records
    recent_left n ys b count e =
        let bs : List (List ℕ) = records confirmed_size s.recent l.recent in
        let z = sized_records confirmed_size s.recent l.recent recent_room in
        let few : length pruned ≤ s.recent =
        omega (arith, length_keep (λ b. leb (h - (confirmed_of b).height) columns) bs, length_records confirmed_size s.recent l.recent) in
        passed confirmed_kept confirmed_most s.recent s.recent n pruned _ l.recent ys (recent_sound k (board_lawful on) s l r) b (le_refl _) (used_within _ _ _ _ (recent_sound k (board_lawful on) s l r)) few
        (sized_keep (λ b. leb (h - (confirmed_of b).height) columns) confirmed_size bs z) (confirmed_pruned h bs) count e

    resolved_left : (d : Float) (xs : Counts) → xs ≡ expire_targets k h (pending_records k s.pending l.pending) l.resolved
        → apply_decay d (take places_of_counts xs) ++ drop places_of_counts xs
        ≡ apply_decay d (expire_targets k h (pending_records k s.pending l.pending) (take places_of_counts l.resolved)) ++ drop places_of_counts l.resolved
    resolved_left d xs e =
        let rs = pending_records k s.pending l.pending in
        let n = resolved_places k (board_lawful on) s l r in
        decayed d xs (expire_targets k h rs (take places_of_counts l.resolved)) (drop places_of_counts l.resolved)
        (length_expire k h rs (take places_of_counts l.resolved) ∙ length-take-le places_of_counts l.resolved n) (e ∙ expire_first k h pending_well l.resolved n)

  pub advanced : (h : Height) (d : Float) (p q : ℕ) (cs es rs : Counts) (ps ts : List ℕ) → d ≡ k.decay → T (are_bytes ps) → T (are_bytes ts)
      → es ≡ expire_targets k h.0 (pending_records k s.pending l.pending) l.resolved
      → p ≡ length (expired h.0)
      → ps ≡ laid size s.pending (expired h.0) l.pending
      → cs ≡ map (often 1 d) (take places_of_counts l.confirmed) ++ drop places_of_counts l.confirmed
      → rs ≡ map (often 1 d) (take places_of_counts es) ++ drop places_of_counts es
      → q ≡ length (pruned h.0)
      → ts ≡ laid confirmed_size s.recent (pruned h.0) l.recent
      → outcome done (record { last = Some h; pending = p; recent = q }) (lent cs rs ps ts) ≡ accepted k (advance_height k h.0 (view k s l)) l
  unfolding state_of lay advance_height view
  advanced h d p q cs es rs ps ts factor bytes more_bytes e waiting pending confirmed resolved young recent =
      let a = pending_left h.0 p ps bytes waiting pending in
      let b = recent_left h.0 q ts more_bytes young recent in
      same a.0 b.0 (confirmed ∙ plain d l.confirmed ∙ rw factor) (resolved ∙ plain d es ∙ resolved_left h.0 d es e ∙ rw factor) a.1 b.1
