-- A run goes on in memory that is lent anew, as if that had been lent from the start; copied memory is lent anew, and so are tables that
-- were cut or have grown. Assumes nothing.
use mathlib.Core.Path.{◌≡◌, refl, sym, ap, ap₂, ◌∙◌, subst}
use mathlib.Core.Bool.{true, ◌&&◌}
use mathlib.Core.List.{List, ◌++◌, map}
use Prim.Native.Nat.{ℕ, zero, suc, ◌+◌, ◌-◌, ◌*◌, ◌≤◌, ◌<◌}
use native.Mathlib.Nat.{le_trans, mul-le-mul_right, le-div_iff_mul-le}
use native.Mathlib.Omega.{arith}
use lib.Dec.{T, leb, lit<}
use lib.ListN.{length, take, drop, replicate, length-take, length-append, length-replicate, take-append-drop}
use lib.Seq.{slice, take_at, drop_at, take-append-add, length-take-le}
use lib.Pow.{are_bytes}
use lib.Ieee.{Float}
use borrow.Author.Tests.{leb-true, le-leb}
use Rattle.kinds.specs.declared.State.{State}
use Rattle.rules.specs.Lists.{every}
use Rattle.rules.specs.Ids.{rising}
use Rattle.rules.specs.Records.{records, joined, id_of, capacity, all_zero, sound_table}
use Rattle.rules.specs.Counts.{places_of_counts, sound_count}
use Rattle.rules.specs.Board.{Board, Lawful, in_range, confirmed_size, pending_most, confirmed_most}
use Rattle.rules.specs.Estimator.{Estimator}
use Rattle.rules.specs.Memory.{Lent, pending_records, confirmed_records, enough, sound_counts, sound_pending, sound_confirmed, sound, view, lay}
use Rattle.rules.proofs.Records.{and_left, and_right, and_both, joined_records, length_records, sized_records, records_joined, capacity_room, used_within}
use Rattle.rules.proofs.Memory.{Room, view_of_lay, pending_table}
use Rattle.rules.proofs.Sound.{well_fits}
use Rattle.ready.specs.Ready.{Ready}
use Rattle.ready.proofs.Ready.{ready_sound}
use Rattle.meaning.specs.Runs.{Held}
use Rattle.meaning.specs.Answered.{run}
use Rattle.meaning.proofs.Leading.{Comes}
use Rattle.lives.specs.Anew.{Anew, Moved, CopyPromise, resized, refitted}

-- ---- the run goes on

module _ (k : Board) (law : Lawful k) (m : Lent) (x : Held) (c : Comes k m x) (l : Lent) (a : Anew k x.state x.memory l) where
  -- it holds the estimator of the log
  seen : view k x.state l ≡ run k x.log
  seen = a.holds_same ∙ ap (λ (y : Held). view k y.state y.memory) c.is ∙ view_of_lay k law (run k x.log) m (well_fits c.live.well)

  pub comes_anew : T (are_bytes l.pending) → T (are_bytes l.recent) → Comes k l (record { state = x.state; memory = l; log = x.log })
  comes_anew b d =
      let ready : Ready k x.state l = ready_sound k law x.state l a.is_sound b d in
      record {
        is = ap₂ (λ (s : State) (n : Lent). record { state = s; memory = n; log = x.log }) (ap (λ (y : Held). y.state) c.is) (sym ready.own ∙ ap (λ (e : Estimator). lay k e l) seen);
        live = record { well = c.live.well; room = subst (λ (e : Estimator). Room k e l) seen ready.room; admitted = c.live.admitted; floored = c.live.floored };
      }

-- ---- a copy

-- the first records are those of the first bytes
same_records : (size n : ℕ) (xs ys : List ℕ) → n * size ≤ length ys → take (n * size) xs ≡ take (n * size) ys → records size n xs ≡ records size n ys
same_records size n xs ys h e =
    let rest = drop (n * size) xs in
    ap (records size n) (sym (take-append-drop (n * size) xs) ∙ ap (λ (bs : List ℕ). bs ++ rest) (e ∙ sym (joined_records size n ys)))
    ∙ ap (λ (j : ℕ). records size j (joined (records size n ys) ++ rest)) (sym (length_records size n ys))
    ∙ records_joined size (records size n ys) rest (sized_records size n ys h)

module _ (size most used : ℕ) (table xs : List ℕ) (s : sound_table size most used table ≡ true) (c : Moved size most used table xs) where
  moved_records : records size used xs ≡ records size used table
  moved_records = same_records size used xs table (le_trans (mul-le-mul_right size (used_within size most used table s)) (capacity_room size most table)) c.first

  moved_sound : sound_table size most used xs ≡ true
  unfolding sound_table
  moved_sound =
      and_both (le-leb used (capacity size most xs) c.room)
      (and_both (ap (λ (rs : List (List ℕ)). rising (map id_of rs)) moved_records ∙ and_left (rising (map id_of (records size used table))) _ (and_right (leb used (capacity size most table)) _ s)) c.zeros)

counts_moved : (xs ys : List Float) → take places_of_counts ys ≡ take places_of_counts xs → sound_counts xs ≡ true → sound_counts ys ≡ true
unfolding sound_counts
counts_moved xs ys e h =
    let long : length (take places_of_counts xs) ≡ places_of_counts = length-take-le places_of_counts xs (leb-true _ _ (and_left (enough xs) _ h)) in
    let many : places_of_counts ≤ length ys = omega (arith, length-take places_of_counts ys, ap length e, long) in
    and_both (le-leb places_of_counts (length ys) many) (ap (every sound_count) e ∙ and_right (enough xs) _ h)

-- both tables of sound memory
module _ (k : Board) (s : State) (m : Lent) (h : sound k s m ≡ true) where
  rest : sound_counts m.resolved && (sound_pending k s.pending m.pending && sound_confirmed s.recent m.recent) ≡ true
  unfolding sound
  rest = and_right (sound_counts m.confirmed) _ h

  tables : sound_pending k s.pending m.pending && sound_confirmed s.recent m.recent ≡ true
  tables = and_right (sound_counts m.resolved) _ rest

  pending_is : sound_table k.table.size pending_most s.pending m.pending ≡ true
  pending_is = pending_table k s.pending m.pending (and_left (sound_pending k s.pending m.pending) _ tables)

  recent_is : sound_table confirmed_size confirmed_most s.recent m.recent ≡ true
  unfolding sound_confirmed
  recent_is = and_right (sound_pending k s.pending m.pending) _ tables

pub copy_promise : (k : Board) → CopyPromise k
unfolding CopyPromise sound sound_pending sound_confirmed view pending_records confirmed_records
copy_promise k s m l h c =
    let size = k.table.size in
    let t = pending_is k s m h in
    let u = recent_is k s m h in
    let p = and_left (sound_pending k s.pending m.pending) _ (tables k s m h) in
    let ps = moved_records size pending_most s.pending m.pending l.pending t c.pending in
    let rs = moved_records confirmed_size confirmed_most s.recent m.recent l.recent u c.recent in
    record {
      is_sound =
          and_both (counts_moved m.confirmed l.confirmed c.confirmed (and_left (sound_counts m.confirmed) _ h))
          (and_both (counts_moved m.resolved l.resolved c.resolved (and_left (sound_counts m.resolved) _ (rest k s m h)))
          (and_both
          (and_both (moved_sound size pending_most s.pending m.pending l.pending t c.pending) (ap (λ (bs : List (List ℕ)). every in_range (map k.table.read bs)) ps ∙ and_right (sound_table size pending_most s.pending m.pending) _ p))
          (moved_sound confirmed_size confirmed_most s.recent m.recent l.recent u c.recent)));
      holds_same = rw (ps, rs, c.confirmed, c.resolved);
    }

-- ---- cut, and zeros behind

few_zeros : (j n : ℕ) → all_zero (take j (replicate n 0)) ≡ true
unfolding all_zero every
few_zeros zero n = refl
few_zeros (suc j) zero = refl
few_zeros (suc j) (suc n) = few_zeros j n

-- zeros stand behind the first records
zeros_behind : (a b n : ℕ) (xs : List ℕ) → length xs ≡ a → a ≤ b → all_zero (slice a b (xs ++ replicate n 0)) ≡ true
zeros_behind a b n xs e h =
    let z : List ℕ = replicate n 0 in
    let far : length xs + (b - a) ≡ b = omega arith in
    ap (λ (j : ℕ). all_zero (drop a (take j (xs ++ z)))) (sym far)
    ∙ ap (λ (ys : List ℕ). all_zero (drop a ys)) (take-append-add xs z (b - a))
    ∙ ap all_zero (drop_at xs (take (b - a) z) a e)
    ∙ few_zeros (b - a) n

resize : (size most used : ℕ) (xs : List ℕ) (n : ℕ) → 0 < size → sound_table size most used xs ≡ true → Moved size most used xs (resized size used xs n)
resize size most used xs n pos s =
    let within : used ≤ capacity size most xs = used_within size most used xs s in
    let long : length (take (used * size) xs) ≡ used * size = length-take-le (used * size) xs (le_trans (mul-le-mul_right size within) (capacity_room size most xs)) in
    let more : length (resized size used xs n) ≡ used * size + n = length-append (take (used * size) xs) (replicate n 0) ∙ ap₂ ◌+◌ long (length-replicate n 0) in
    let room : used ≤ capacity size most (resized size used xs n) =
    omega (arith, (le-div_iff_mul-le {x = used} {y = length (resized size used xs n)} pos).1 (rw more (omega arith)), within) in
    record {
      room = room;
      first = take_at (take (used * size) xs) (replicate n 0) (used * size) long;
      zeros = zeros_behind (used * size) (capacity size most (resized size used xs n) * size) n (take (used * size) xs) long (mul-le-mul_right size room);
    }

pub refit : (k : Board) → 0 < k.table.size → (s : State) (m : Lent) (a b : ℕ) → sound k s m ≡ true → Anew k s m (refitted k s m a b)
unfolding CopyPromise
refit k pos s m a b h =
    copy_promise k s m (refitted k s m a b) h (record {
      confirmed = refl;
      resolved = refl;
      pending = resize k.table.size pending_most s.pending m.pending a pos (pending_is k s m h);
      recent = resize confirmed_size confirmed_most s.recent m.recent b (lit< tt) (recent_is k s m h);
    })
