-- A block judged, over plain lists: the answers of the code, test by test, are the definition's. Assumes nothing.
use mathlib.Core.Path.{◌≡◌, sym, ap}
use mathlib.Core.Bool.{true, false}
use mathlib.Core.List.{List}
use Prim.Native.Nat.{ℕ, ◌+◌, ◌/◌, ◌%◌, ◌≤◌, ◌<◌}
use native.Mathlib.Omega.{arith}
use borrow.Author.Tests.{le-leb, leb-true, leb-false, lt-ltb, le-ltb, eq-eqb, ne_eqb}
use lib.Dec.{leb}
use lib.ListN.{length}
use Rattle.kinds.specs.declared.Height.{Height}
use Rattle.kinds.specs.declared.State.{State}
use Rattle.kinds.specs.Answers.{done, damaged, bad_list, gap_too_wide, confirmed_full}
use Rattle.rules.specs.Board.{Board, pending_most, confirmed_size, confirmed_most}
use Rattle.rules.specs.Records.{sound_table}
use Rattle.rules.specs.Memory.{Lent, confirmed_capacity, sound_counts, sound_pending, sound_confirmed, sound, view, state_of}
use Rattle.rules.specs.Calls.{Outcome, gap, widest_gap, ids_of, held_once_listed, block_call}
use Rattle.rules.proofs.Records.{and_left, and_right, length_records, used_within}
use Rattle.rules.proofs.Memory.{pending_table, state_of_view}
use Rattle.rules.proofs.Room.{held_at_most}

-- ---- the tables of sound memory

module _ (k : Board) (s : State) (l : Lent) (p : sound k s l ≡ true) where
  tables : (sound_pending k s.pending l.pending ≡ true) × (sound_confirmed s.recent l.recent ≡ true)
  unfolding sound
  tables =
      let both = and_right (sound_counts l.resolved) _ (and_right (sound_counts l.confirmed) _ p) in
      (and_left (sound_pending k s.pending l.pending) _ both, and_right (sound_pending k s.pending l.pending) _ both)

  pub pending_sound : sound_table k.table.size pending_most s.pending l.pending ≡ true
  pending_sound = pending_table k s.pending l.pending tables.0

  pub recent_sound : sound_table confirmed_size confirmed_most s.recent l.recent ≡ true
  unfolding sound_confirmed
  recent_sound = tables.1

  pub recent_within : s.recent ≤ confirmed_capacity l.recent
  recent_within = used_within confirmed_size confirmed_most s.recent l.recent recent_sound

-- ---- answers

-- what a block is given
pub record Block : Type 0 where
  pub state : State
  pub lent : Lent
  pub ids : List ℕ
  pub height : Height

module _ (k : Board) (a : Block) where
  abbrev s : State
  s = a.state

  abbrev l : Lent
  l = a.lent

  -- how many confirmed records there will be once the list is in
  abbrev pub wanted : ℕ
  wanted = held_once_listed k (ids_of a.ids) a.height.0 (view k s l)

  -- the listings, and the records that are there
  listings : length (ids_of a.ids) ≡ length a.ids / 32
  unfolding ids_of
  listings = length_records 32 (length a.ids / 32) a.ids

  there : length (view k s l).recent ≡ s.recent
  unfolding state_of
  there = ap (λ (t : State). t.recent) (state_of_view k s l)

  -- what the definition says
  abbrev pub says : Outcome Lent
  says = block_call k s l a.ids a.height

  pub answer_damaged : sound k s l ≡ false → damaged ≡ says.answer
  unfolding block_call
  answer_damaged p = sym (rw p)

  module _ (p : sound k s l ≡ true) where
    pub answer_list : (length a.ids % 32 ≡ 0 → ⊥) → bad_list ≡ says.answer
    unfolding block_call
    answer_list q = sym (rw (p, ne_eqb (length a.ids % 32) 0 q))

    module _ (q : length a.ids % 32 ≡ 0) where
      pub answer_gap : widest_gap < gap s.last a.height → gap_too_wide ≡ says.answer
      unfolding block_call
      answer_gap g = sym (rw (p, eq-eqb (length a.ids % 32) 0 q, lt-ltb widest_gap (gap s.last a.height) g))

      module _ (g : gap s.last a.height ≤ widest_gap) where
        pub answer_full : leb wanted (confirmed_capacity l.recent) ≡ false → confirmed_full ≡ says.answer
        unfolding block_call
        answer_full h = sym (rw (p, eq-eqb (length a.ids % 32) 0 q, le-ltb widest_gap (gap s.last a.height) g, lt-ltb (confirmed_capacity l.recent) wanted (leb-false wanted (confirmed_capacity l.recent) h)))

        pub answer_done : leb wanted (confirmed_capacity l.recent) ≡ true → done ≡ says.answer
        unfolding block_call
        answer_done h = sym (rw (p, eq-eqb (length a.ids % 32) 0 q, le-ltb widest_gap (gap s.last a.height) g, le-ltb (confirmed_capacity l.recent) wanted (leb-true wanted (confirmed_capacity l.recent) h)))

        -- beside the records that are there, as many places as there are listings
        pub answer_short : s.recent + length a.ids / 32 ≤ confirmed_capacity l.recent → done ≡ says.answer
        answer_short h = answer_done (le-leb wanted (confirmed_capacity l.recent) (omega (arith, held_at_most k (ids_of a.ids) a.height.0 (view k s l), listings, there)))

-- a gap that is too wide, as the check meets it in the code
pub wide_gap : (k : Board) (s : State) (l : Lent) (ids : List ℕ) (height : Height) → sound k s l ≡ true → length ids % 32 ≡ 0 → widest_gap < gap s.last height
    → gap_too_wide ≡ (block_call k s l ids height).answer
wide_gap k s l ids height p q g = answer_gap k (record { state = s; lent = l; ids = ids; height = height }) p q g
