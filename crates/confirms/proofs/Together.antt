-- Marked, settled, merged and compacted is what the list does one by one. Assumes nothing.
use mathlib.Core.Path.{◌≡◌, refl, sym, ap, subst, ◌∙◌}
use mathlib.Core.Bool.{not}
use mathlib.Core.List.{List, ◌++◌, map}
use Prim.Native.Nat.{ℕ, ◌+◌, ◌^◌, ◌≤◌, ◌<◌}
use native.Mathlib.Omega.{arith}
use lib.Dec.{eqb}
use lib.ListN.{length, take, drop}
use Rattle.kinds.specs.declared.Horizon.{Horizon}
use Rattle.kinds.specs.declared.State.{State}
use Rattle.kinds.specs.Answers.{done}
use Rattle.std.specs.Prelude.{count_by}
use Rattle.rules.specs.Ids.{Id}
use Rattle.rules.specs.Counts.{places_of_counts}
use Rattle.rules.specs.Records.{records, id_of, sound_table, laid}
use Rattle.rules.specs.Board.{Board, Lawful, Pending, Confirmed, pending_most, confirmed_size, confirmed_most, board_of}
use Rattle.rules.proofs.Boards.{board_lawful}
use Rattle.rules.specs.Estimator.{Estimator, confirm_all}
use Rattle.rules.specs.Memory.{Lent, lent, pending_records, confirmed_records, confirmed_capacity, lay_confirmed, view, state_of, lay}
use Rattle.rules.specs.Calls.{outcome, accepted, ids_of}
use Rattle.rules.proofs.All.{All, all_keep}
use Rattle.rules.proofs.Records.{length_records}
use Rattle.rules.proofs.Memory.{pending_length}
use Rattle.rules.proofs.Room.{length_keep}
use Rattle.rules.proofs.Well.{WellPending}
use Rattle.batch.specs.Needed.{listed}
use Rattle.batch.specs.Batch.{gains, in_time, unresolved, at_height, raised, fresh_of, merged, unmarked, counted, batch}
use Rattle.batch.specs.Picked.{picked}
use Rattle.batch.proofs.Batch.{confirm_all_is}
use Rattle.batch.proofs.Listing.{ids_none}
use Rattle.batch.proofs.Picked.{all_picked}
use Rattle.batch.proofs.Together.{well_rises}
use Rattle.marks.specs.Marks.{beside}
use Rattle.ready.specs.Ready.{Ready}
use Rattle.ready.proofs.Ready.{step_none}
use Rattle.ready.proofs.Facts.{confirmed_places, resolved_places, pending_sound}
use Rattle.table.proofs.Records.{cap_room}
use Rattle.table.proofs.Sound.{sound_told, sound_room}
use Rattle.settles.specs.Settled.{AllSettled}
use Rattle.settles.proofs.Raised.{raised_sound}
use Rattle.merges.specs.New.{Given, at_height as new-record}
use Rattle.confirms.proofs.Marked.{picks_marked, picks_others, picked_count}
use Rattle.confirms.proofs.Gained.{gains_first}
use Rattle.confirms.proofs.Tables.{compacted, as_many, merged_told}

-- a list of less than one id does nothing
pub nothing_listed : (k : Board) → Lawful k → (B : ℕ) (s : State) (l : Lent) (xs : List ℕ) → Ready k s l → length xs < 32 → outcome done s l ≡ accepted k (confirm_all k B (ids_of xs) (view k s l)) l
unfolding confirm_all
nothing_listed k law B s l xs ready h = step_none k law s l ready ∙ ap (λ (ids : List Id). accepted k (confirm_all k B ids (view k s l)) l) (sym (ids_none xs (omega arith)))

-- the same over the board of a horizon, as the check meets it in the code
pub none_listed : (on : Horizon) (B : ℕ) (s : State) (l : Lent) (xs : List ℕ) → Ready (board_of on) s l → length xs < 32
    → outcome done s l ≡ accepted (board_of on) (confirm_all (board_of on) B (ids_of xs) (view (board_of on) s l)) l
none_listed on B s l xs ready h = nothing_listed (board_of on) (board_lawful on) B s l xs ready h

module _ (k : Board) (law : Lawful k) (B : ℕ) (small : B < 256 ^ 4) (s : State) (l : Lent) (ready : Ready k s l) (ids : List Id) (n : ℕ) (size : n ≡ k.table.size)
    (ms rest : List ℕ) (marking : ms ≡ beside id_of (listed ids) (records n s.pending l.pending) ++ rest) (m : Lent) (ns : List ℕ) (settled : AllSettled k B (view k s l) l ms m ns) where
  abbrev rs : List Pending
  rs = pending_records k s.pending l.pending

  abbrev cs : List Confirmed
  cs = confirmed_records s.recent l.recent

  abbrev gone : List Pending
  gone = picked 1 ms rs

  -- what the batch leaves of the confirmed records
  abbrev all : List Confirmed
  all = merged (λ c. c.id) (map (at_height B) (fresh_of gone cs)) (raised B gone cs)

  -- what it leaves of everything
  abbrev end : Estimator
  end =
      record {
        last = s.last;
        pending = picked 0 ms rs;
        recent = all;
        confirmed = gains (in_time k B) (counted B cs gone) (view k s l).confirmed;
        resolved = gains unresolved (counted B cs gone) (view k s l).resolved;
      }

  ends : confirm_all k B ids (view k s l) ≡ end
  unfolding view batch
  ends =
      confirm_all_is k B ids (view k s l) (well_rises ready.well)
      ∙ rw (picks_marked k law (listed ids) n s.pending l.pending ms rest size marking, picks_others k law (listed ids) n s.pending l.pending ms rest size marking)

  counted_well : All WellPending (counted B cs gone)
  unfolding counted view
  counted_well = all_keep _ (all_picked 1 ms ready.well.pending)

  -- those that the mark 1 still picks are new
  new : picked 1 ns rs ≡ fresh_of gone cs
  unfolding view
  new = settled.new

  heights : m.recent ≡ lay_confirmed (raised B gone cs) l.recent
  unfolding view
  heights = settled.recent

  few : length (picked 0 ms rs) ≤ s.pending
  unfolding unmarked
  few = omega (arith, ap length (picks_others k law (listed ids) n s.pending l.pending ms rest size marking), length_keep (λ r. not (listed ids r.id)) rs, pending_length k s.pending l.pending)

  module _ (fresh : ℕ) (enough : s.pending ≤ length ns) (counting : fresh ≡ count_by (λ w. eqb w 1) (take s.pending ns))
      (room : length (confirm_all k B ids (view k s l)).recent ≤ confirmed_capacity l.recent) where
    many : fresh ≡ length (picked 1 ns (records n s.pending l.pending))
    many =
        let e : length (records n s.pending l.pending) ≡ s.pending = length_records n s.pending l.pending in
        counting ∙ sym (picked_count 1 ns (records n s.pending l.pending) (omega arith) ∙ ap (λ (j : ℕ). count_by (λ w. eqb w 1) (take j ns)) e)

    all_many : s.recent + fresh ≡ length all
    all_many = as_many k law s l ready B small gone m.recent heights n fresh ns (fresh_of gone cs) size new many

    all_room : length all ≤ confirmed_capacity l.recent
    all_room = subst (λ (e : Estimator). length e.recent ≤ confirmed_capacity l.recent) ends room

    -- so many records find a place
    pub places_for_all : s.recent + fresh ≤ confirmed_capacity l.recent
    places_for_all = omega (arith, all_many, all_room)

    -- what the merge asks
    pub merge_asks : 32 ≤ n → length m.recent ≡ length l.recent → Given n s.pending s.recent fresh l.pending ns m.recent
    merge_asks wide long =
        let g = sound_told n pending_most s.pending l.pending (ap (λ (z : ℕ). sound_table z pending_most s.pending l.pending) size ∙ pending_sound k law s l ready) in
        let r = cap_room confirmed_size confirmed_most (s.recent + fresh) _ l.recent refl places_for_all in
        record {
          wide = wide;
          table_room = sound_room n pending_most s.pending l.pending g;
          marks_room = enough;
          recent_room = omega arith;
          table_up = g.rise;
          recent_up = (sound_told confirmed_size confirmed_most s.recent m.recent (raised_sound k law B small s l ready gone m.recent heights)).rise;
          many = many;
        }

    pub phases_are : (left : ℕ) (ps t : List ℕ)
        → t ≡ laid confirmed_size (s.recent + fresh) (merged id_of (picked 1 ns (map (new-record B) (records n s.pending l.pending))) (records confirmed_size s.recent m.recent)) m.recent
        → left ≡ length (picked 0 ns (records n s.pending l.pending)) → ps ≡ laid n s.pending (picked 0 ns (records n s.pending l.pending)) l.pending
        → outcome done (record { last = s.last; pending = left; recent = s.recent + fresh }) (lent m.confirmed m.resolved ps t) ≡ accepted k (confirm_all k B ids (view k s l)) l
    unfolding view state_of lay
    phases_are left ps t merging leaving compacting =
        let pending = compacted k law s l ready n left ns ps (picked 0 ms rs) size settled.rest few leaving compacting in
        let p0 = pending.0 in
        let p1 = pending.1 in
        let recent : t ≡ lay_confirmed all l.recent = merged_told k law s l ready B small gone m.recent heights n fresh ns (fresh_of gone cs) size new many all_room t merging in
        let c : m.confirmed ≡ gains (in_time k B) (counted B cs gone) (take places_of_counts l.confirmed) ++ drop places_of_counts l.confirmed =
        settled.confirmed ∙ gains_first (in_time k B) counted_well l.confirmed (confirmed_places k law s l ready) in
        let d : m.resolved ≡ gains unresolved (counted B cs gone) (take places_of_counts l.resolved) ++ drop places_of_counts l.resolved =
        settled.resolved ∙ gains_first unresolved counted_well l.resolved (resolved_places k law s l ready) in
        let q = all_many in
        let is : outcome done (record { last = s.last; pending = left; recent = s.recent + fresh }) (lent m.confirmed m.resolved ps t) ≡ accepted k end l = cc in
        is ∙ ap (λ (e : Estimator). accepted k e l) (sym ends)
