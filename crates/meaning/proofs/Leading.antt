-- Between two calls of a run the lent memory is the estimator of the log, laid into what was lent at the start: a refused call leaves it so, and
-- one that is taken lays the next estimator over it. Assumes nothing.
use mathlib.Core.Path.{◌≡◌, refl, sym, ap, ◌∙◌, subst}
use mathlib.Core.Bool.{Bool, true, false, not, ◌&&◌, cond}
use mathlib.Core.List.{List, [], ◌∷◌}
use Prim.Native.Nat.{ℕ, suc, ◌≤◌, ◌<◌, zero-le}
use native.Mathlib.Nat.{le_trans}
use native.Mathlib.Omega.{arith}
use lib.Dec.{eqb}
use lib.ListN.{length}
use Rattle.kinds.specs.declared.FeeRate.{FeeRate}
use Rattle.kinds.specs.declared.Height.{Height}
use Rattle.kinds.specs.declared.State.{State}
use Rattle.kinds.specs.Answers.{Answer, done, damaged}
use Rattle.rules.specs.Ids.{Id, same, below, dropped}
use Rattle.rules.specs.Ladder.{floor}
use Rattle.rules.specs.Board.{Board, Pending, pending_most, confirmed_most, Lawful}
use Rattle.rules.specs.Estimator.{Estimator, fresh, is_pending, without, admit, with_pending, tx_entered, tx_left, block_connected}
use Rattle.rules.specs.Memory.{Lent, pending_capacity, confirmed_capacity, pending_records, lay_pending, lay_confirmed, enough, view, state_of, lay}
use Rattle.rules.specs.Calls.{Outcome, refused, accepted, start_call, accepted_pending, enter_call, leave_call, ids_of, held_once_listed, block_call}
use Rattle.rules.proofs.Rates.{not_below, below_next}
use Rattle.rules.proofs.Listed.{ids_sized}
use Rattle.rules.proofs.Memory.{Room, same_capacity, confirmed_kept, view_of_lay, lay_over}
use Rattle.rules.proofs.Placing.{Free, admit_free}
use Rattle.rules.proofs.Well.{newcomer, Well, well_fresh, well_entered, well_left, well_block}
use Rattle.rules.proofs.Sound.{well_fits, Tabled, pending_seen, pending_places, pending_over}
use Rattle.rules.proofs.Room.{length_insert, length_keep, fewer_recent, fewer_pending}
use Rattle.meaning.specs.Runs.{arrival, removal, block, Log, begin, ◌▸◌, Call, enter, leave, connect, Typed, AllTyped, event_of, Held, with_table, outcome_of, noted, after, after_all, started, calls}
use Rattle.meaning.specs.Answered.{run}
use Rattle.meaning.specs.Floor.{Floored}
use Rattle.meaning.proofs.Table.{Admitted}
use Rattle.meaning.proofs.Judging.{Judged, turned, taken, enter_judged, leave_judged, block_judged}

-- what a caller has, if the memory lent was m and the log is g
abbrev pub at : Board → Lent → Log → Held
at k m g = record { state = state_of (run k g); memory = lay k (run k g) m; log = g }

-- what holds of the log's estimator
pub record Live (k : Board) (m : Lent) (g : Log) : Type 0 where
  pub well : Well (run k g)
  pub room : Room k (run k g) m
  pub admitted : Admitted (λ l. (run k l).pending) g
  pub floored : Floored g

-- a call leads there
pub record Leads (k : Board) (m : Lent) (x : Held) : Type 0 where
  pub to : Log
  pub is : x ≡ at k m to
  pub live : Live k m to

-- ---- every call keeps it

module _ (k : Board) (law : Lawful k) (m : Lent) (g : Log) (v : Live k m g) where
  abbrev e : Estimator
  e = run k g

  abbrev s : State
  s = state_of e

  -- the pending table
  abbrev xs : List ℕ
  xs = lay_pending k e.pending m.pending

  fitting : Tabled k m.pending e.pending
  fitting = record { well = v.well.pending; up = v.well.pending_up; room = v.room.pending }

  back : pending_records k s.pending xs ≡ e.pending
  unfolding state_of
  back = pending_seen k law m.pending fitting

  same_room : pending_capacity k xs ≡ pending_capacity k m.pending
  same_room = pending_places k law m.pending fitting

  same_view : view k s (lay k e m) ≡ e
  same_view = view_of_lay k law e m (well_fits v.well)

  stays : (a : Answer) (c : Call) → eqb a.number 0 ≡ false → Leads k m (noted c (refused a s (lay k e m)) g)
  unfolding noted
  stays a c z = record { to = g; is = rw z; live = v }

  -- the pending table laid anew
  tabled : List Pending → Log → Held
  tabled rs l =
      let o = with_table (lay k e m) (accepted_pending k s rs xs) in
      record { state = o.state; memory = o.lent; log = l }

  tabled_is : (rs : List Pending) (l : Log) → tabled rs l ≡ record { state = state_of (with_pending rs e); memory = lay k (with_pending rs e) m; log = l }
  unfolding tabled state_of lay
  tabled_is rs l = rw (pending_over k law m.pending fitting rs)

  enter_leads : (i : Id) (rate : FeeRate) (h : Height) → Typed (enter i rate h) → Leads k m (after k (enter i rate h) (at k m g))
  unfolding after outcome_of Typed tabled lay run tx_entered noted event_of Floored
  enter_leads i rate h t = go (enter_call k s xs i rate h) (enter_judged k s xs i rate h)
    where
      go : (o : Outcome (List ℕ)) → Judged s xs (accepted_pending k s (admit i rate.0 h.0 (pending_records k s.pending xs)) xs) (Free (pending_capacity k xs) i (pending_records k s.pending xs) × (floor ≤ rate.0)) o
          → Leads k m (noted (enter i rate h) (with_table (lay k e m) o) g)
      go o (turned a z) = stays a (enter i rate h) z
      go o (taken f) =
          let n : length e.pending < pending_capacity k m.pending = omega (arith, f.0.place, ap length back, same_room) in
          let free : Free pending_most i e.pending = record { absent = ap (is_pending i) (sym back) ∙ f.0.absent; place = omega arith } in
          let longer : length (admit i rate.0 h.0 e.pending) ≡ suc (length e.pending) =
          ap length (admit_free i rate.0 h.0 e.pending free) ∙ length_insert (λ x y. below x.id y.id) (newcomer i rate.0 h.0) e.pending in
          record {
            to = g ▸ arrival i rate.0 h.0;
            is = ap (λ (rs : List Pending). tabled (admit i rate.0 h.0 rs) (g ▸ arrival i rate.0 h.0)) back ∙ tabled_is (admit i rate.0 h.0 e.pending) (g ▸ arrival i rate.0 h.0);
            live = record {
              well = well_entered i rate.0 h.0 e t.0 t.1 v.well;
              room = record { pending = omega arith; recent = v.room.recent };
              admitted = (v.admitted, free);
              floored = (v.floored, f.1, record { not_below = not_below rate.0 f.1; below_next = below_next rate.0 });
            };
          }

  leave_leads : (i : Id) → Leads k m (after k (leave i) (at k m g))
  unfolding after outcome_of tabled lay run tx_left noted event_of dropped Floored
  leave_leads i = go (leave_call k s xs i) (leave_judged k s xs i)
    where
      go : (o : Outcome (List ℕ)) → Judged s xs (accepted_pending k s (without i (pending_records k s.pending xs)) xs) (Unit {0}) o
          → Leads k m (noted (leave i) (with_table (lay k e m) o) g)
      go o (turned a z) = stays a (leave i) z
      go o (taken f) = record {
        to = g ▸ removal i;
        is = ap (λ (rs : List Pending). tabled (without i rs) (g ▸ removal i)) back ∙ tabled_is (without i e.pending) (g ▸ removal i);
        live = record {
          well = well_left i e v.well;
          room = record { pending = omega (arith, length_keep (λ r. not (same r.id i)) e.pending, v.room.pending); recent = v.room.recent };
          admitted = v.admitted;
          floored = v.floored;
        };
      }

  block_leads : (ids : List ℕ) (h : Height) → Typed (connect ids h) → Leads k m (after k (connect ids h) (at k m g))
  unfolding after outcome_of Typed run noted event_of lay lay_confirmed state_of Floored
  block_leads ids h t = go (block_call k s (lay k e m) ids h) (block_judged k s (lay k e m) ids h)
    where
      f : Estimator
      f = block_connected k (ids_of ids) h.0 e

      same_full : confirmed_capacity (lay k e m).recent ≡ confirmed_capacity m.recent
      same_full = same_capacity confirmed_kept confirmed_most m.recent v.well.recent v.room.recent

      listed : held_once_listed k (ids_of ids) h.0 (view k s (lay k e m)) ≡ held_once_listed k (ids_of ids) h.0 e
      listed = ap (held_once_listed k (ids_of ids) h.0) same_view

      go : (o : Outcome Lent)
          → Judged s (lay k e m) (accepted k (block_connected k (ids_of ids) h.0 (view k s (lay k e m))) (lay k e m)) (held_once_listed k (ids_of ids) h.0 (view k s (lay k e m)) ≤ confirmed_capacity (lay k e m).recent) o
          → Leads k m (noted (connect ids h) o g)
      go o (turned a z) = stays a (connect ids h) z
      go o (taken q) =
          record {
            to = g ▸ block (ids_of ids) h.0;
            is = ap (λ (y : Estimator). record { state = state_of (block_connected k (ids_of ids) h.0 y); memory = lay k (block_connected k (ids_of ids) h.0 y) (lay k e m); log = g ▸ block (ids_of ids) h.0 }) same_view
                ∙ ap (λ (y : Lent). record { state = state_of f; memory = y; log = g ▸ block (ids_of ids) h.0 }) (lay_over k law e f m (well_fits v.well) v.room);
            live = record {
              well = well_block k h.0 e (ids_sized ids) t v.well;
              room = record { pending = le_trans (fewer_pending k (ids_of ids) h.0 e) v.room.pending; recent = omega (arith, fewer_recent k (ids_of ids) h.0 e, q, same_full, listed) };
              admitted = v.admitted;
              floored = v.floored;
            };
          }

  call_leads : (c : Call) → Typed c → Leads k m (after k c (at k m g))
  call_leads (enter i rate h) t = enter_leads i rate h t
  call_leads (leave i) t = leave_leads i
  call_leads (connect ids h) t = block_leads ids h t

-- ---- runs

-- what a run comes to
pub record Comes (k : Board) (m : Lent) (x : Held) : Type 0 where
  pub is : x ≡ at k m x.log
  pub live : Live k m x.log

led : {k : Board} {m : Lent} {x : Held} → Leads k m x → Comes k m x
led {k} {m} l =
    let q = ap (λ (y : Held). y.log) l.is in
    record { is = l.is ∙ ap (at k m) (sym q); live = subst (Live k m) (sym q) l.live }

start_done : (k : Board) (m : Lent) → (start_call k m).answer ≡ done → start_call k m ≡ accepted k fresh m
unfolding start_call
start_done k m e = go (enough m.confirmed && enough m.resolved) e
  where
    go : (b : Bool) → (cond b (accepted k fresh m) (refused damaged (state_of fresh) m)).answer ≡ done → cond b (accepted k fresh m) (refused damaged (state_of fresh) m) ≡ accepted k fresh m
    go true e = refl
    go false e = let z : ◌≡◌ {A = ℕ} 0 1 = sym (ap (λ (a : Answer). a.number) e) in absurd (omega arith)

-- what it holds is the estimator of its log
pub seen : (k : Board) → Lawful k → (m : Lent) (x : Held) → Comes k m x → view k x.state x.memory ≡ run k x.log
seen k law m x c = ap (λ (y : Held). view k y.state y.memory) c.is ∙ same_view k law m x.log c.live

-- a fresh start that is answered 0, one call more, and more calls

pub comes_start : (k : Board) (m : Lent) → (start_call k m).answer ≡ done → Comes k m (started k m)
unfolding started run fresh Floored
comes_start k m e =
    led (record {
      to = begin;
      is = ap (λ (o : Outcome Lent). record { state = o.state; memory = o.lent; log = begin }) (start_done k m e);
      live = record { well = well_fresh; room = record { pending = zero-le; recent = zero-le }; admitted = tt; floored = tt };
    })

pub comes_after : (k : Board) → Lawful k → (m : Lent) (x : Held) → Comes k m x → (c : Call) → Typed c → Comes k m (after k c x)
comes_after k law m x v c t = subst (λ (y : Held). Comes k m (after k c y)) (sym v.is) (led (call_leads k law m x.log v.live c t))

comes_after_all : (k : Board) → Lawful k → (m : Lent) (x : Held) → Comes k m x → (cs : List Call) → AllTyped cs → Comes k m (after_all k cs x)
unfolding after_all AllTyped
comes_after_all k law m x v [] t = v
comes_after_all k law m x v (c ∷ cs) t = comes_after_all k law m (after k c x) (comes_after k law m x v c t.0) cs t.1

pub comes : (k : Board) → Lawful k → (m : Lent) → (start_call k m).answer ≡ done → (cs : List Call) → AllTyped cs → Comes k m (calls k m cs)
unfolding calls
comes k law m e cs t = comes_after_all k law m (started k m) (comes_start k m e) cs t
