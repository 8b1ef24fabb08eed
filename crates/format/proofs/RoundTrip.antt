-- Reading what a write wrote restores the state and the memory: sound memory can be written, what was written is read, and its records, whose ids
-- rise, are placed as they stand. Assumes nothing.
use mathlib.Core.Path.{◌≡◌, refl, ap, ◌∙◌}
use mathlib.Core.Bool.{Bool, true, false, ◌&&◌}
use mathlib.Core.List.{List}
use Prim.Native.Nat.{ℕ, ◌/◌, ◌≤◌}
use native.Mathlib.Nat.{le_trans, min-le_right}
use native.Mathlib.Omega.{arith}
use lib.Dec.{ltb}
use lib.ListN.{length, take, drop}
use lib.Seq.{take_at}
use borrow.Author.Tests.{le-leb}
use Rattle.kinds.specs.declared.State.{State}
use Rattle.kinds.specs.Answers.{done}
use Rattle.rules.specs.Board.{Board, Lawful, confirmed_size, pending_most, confirmed_most}
use Rattle.rules.specs.Estimator.{Estimator}
use Rattle.rules.specs.Records.{sound_table}
use Rattle.rules.specs.Memory.{Lent, enough, sound, sound_counts, sound_pending, sound_confirmed, view, state_of}
use Rattle.rules.specs.Calls.{outcome, accepted}
use Rattle.rules.proofs.Records.{and_left, and_right, used_within}
use Rattle.rules.proofs.Ids.{rising_of}
use Rattle.rules.proofs.Memory.{lay_of_view, state_of_view}
use Rattle.rules.proofs.Well.{Well}
use Rattle.rules.proofs.Sound.{view_well}
use Rattle.ready.proofs.Stays.{Typed, counts_of}
use Rattle.format.specs.File.{Version, history_of, restored}
use Rattle.format.specs.Calls.{Output, write_call, has_room, taken_in, read_call}
use Rattle.format.proofs.Back.{LawfulVersion, Short, Writable, written_is_read}
use Rattle.format.proofs.Order.{restored_same}

-- the file that a write left
abbrev pub written : Output → List ℕ
written o = take o.len o.bytes

-- an estimator as the calls make it is the one that its own records make
restored_well : (e : Estimator) → Well e → restored e ≡ e
restored_well e w = restored_same e (rising_of (λ r. r.id) w.pending_up) (rising_of (λ c. c.id) w.recent_up)

-- ---- sound memory can be written

pub used_few : (size most used : ℕ) (xs : List ℕ) → sound_table size most used xs ≡ true → used ≤ most
used_few size most used xs h = le_trans (used_within size most used xs h) (min-le_right (length xs / size) most)

module _ (k : Board) (law : Lawful k) (s : State) (l : Lent) (short : Short s.last) (t : Typed l) (h : sound k s l ≡ true) where
  pub view_writable : Writable (view k s l)
  unfolding sound sound_pending sound_confirmed state_of view
  view_writable =
      let w = view_well k law s l h t.pending t.recent in
      let rest = and_right (sound_counts l.confirmed) _ h in
      let tables = and_right (sound_counts l.resolved) _ rest in
      let p = and_left (sound_table k.table.size pending_most s.pending l.pending) _ (and_left (sound_pending k s.pending l.pending) _ tables) in
      let r = and_right (sound_pending k s.pending l.pending) _ tables in
      let n : length (view k s l).pending ≡ s.pending = ap (λ (q : State). q.pending) (state_of_view k s l) in
      let m : length (view k s l).recent ≡ s.recent = ap (λ (q : State). q.recent) (state_of_view k s l) in
      record {
        last = short;
        confirmed_places = w.confirmed;
        resolved_places = w.resolved;
        confirmed = counts_of l.confirmed (and_left (sound_counts l.confirmed) _ h) t.confirmed;
        resolved = counts_of l.resolved (and_left (sound_counts l.resolved) _ rest) t.resolved;
        pending_few = rw n (used_few k.table.size pending_most s.pending l.pending p);
        recent_few = rw m (used_few confirmed_size confirmed_most s.recent l.recent r);
        pending = w.pending;
        recent = w.recent;
      }

  -- and has room for itself
  pub own_room : has_room k l (view k s l) ≡ true
  unfolding has_room sound sound_pending sound_confirmed state_of
  own_room =
      let tables = and_right (sound_counts l.resolved) _ (and_right (sound_counts l.confirmed) _ h) in
      let p = and_left (sound_table k.table.size pending_most s.pending l.pending) _ (and_left (sound_pending k s.pending l.pending) _ tables) in
      let r = and_right (sound_pending k s.pending l.pending) _ tables in
      let n : length (view k s l).pending ≡ s.pending = ap (λ (q : State). q.pending) (state_of_view k s l) in
      let m : length (view k s l).recent ≡ s.recent = ap (λ (q : State). q.recent) (state_of_view k s l) in
      rw (n, m, le-leb _ _ (used_within k.table.size pending_most s.pending l.pending p), le-leb _ _ (used_within confirmed_size confirmed_most s.recent l.recent r))

  pub own_enough : (enough l.confirmed && enough l.resolved) ≡ true
  unfolding sound sound_counts
  own_enough =
      let rest = and_right (sound_counts l.confirmed) _ h in
      rw (and_left (enough l.confirmed) _ (and_left (sound_counts l.confirmed) _ h), and_left (enough l.resolved) _ (and_left (sound_counts l.resolved) _ rest))

-- ---- what a write that is done wrote

record Wrote (v : Version) (k : Board) (s : State) (l : Lent) (out : List ℕ) : Type 0 where
  pub sound_was : sound k s l ≡ true
  pub file : written (write_call v k s l out).lent ≡ history_of v (view k s l)

wrote : (v : Version) (k : Board) (s : State) (l : Lent) (out : List ℕ) → (write_call v k s l out).answer.number ≡ 0 → Wrote v k s l out
unfolding write_call
wrote v k s l out = go (sound k s l) refl (ltb (length out) (length f)) refl
  where
    f : List ℕ
    f = history_of v (view k s l)

    go : (b : Bool) → sound k s l ≡ b → (c : Bool) → ltb (length out) (length f) ≡ c → (write_call v k s l out).answer.number ≡ 0 → Wrote v k s l out
    go true p false q e = record { sound_was = p; file = rw (p, q) (take_at f (drop (length f) out) (length f) refl) }
    go true p true q e = absurd (let z : ◌≡◌ {A = ℕ} 12 0 = rw (p, q) at e in omega arith)
    go false p c q e = absurd (let z : ◌≡◌ {A = ℕ} 1 0 = rw p at e in omega arith)

module _ (v : Version) (vlaw : LawfulVersion v) (k : Board) (law : Lawful k) (s : State) (l : Lent) (short : Short s.last) (t : Typed l) (out : List ℕ) (d : (write_call v k s l out).answer.number ≡ 0) where
  -- Into any memory that has room for it, a reading of what was written brings the estimator that was written.
  pub written_is_restored : (m : Lent) → (enough m.confirmed && enough m.resolved) ≡ true → has_room k m (view k s l) ≡ true
      → read_call v k m (written (write_call v k s l out).lent) ≡ accepted k (view k s l) m
  unfolding read_call taken_in
  written_is_restored m e r =
      let w = wrote v k s l out d in
      let g = view_writable k law s l short t w.sound_was in
      rw (w.file, e, written_is_read v vlaw (view k s l) g, r, restored_well (view k s l) (view_well k law s l w.sound_was t.pending t.recent))

  -- Into its own memory: the state and all lent bytes are as they were.
  pub round_trip : read_call v k l (written (write_call v k s l out).lent) ≡ outcome done s l
  round_trip =
      let w = wrote v k s l out d in
      written_is_restored l (own_enough k law s l short t w.sound_was) (own_room k law s l short t w.sound_was)
      ∙ rw (state_of_view k s l, lay_of_view k law s l w.sound_was t.pending t.recent)
