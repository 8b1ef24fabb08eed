-- The laws of entering and leaving: of a table that holds records, where a call is a step on those records; and so of whatever state is given and whatever
-- bytes are lent. Assumes nothing.
use mathlib.Core.Path.{◌≡◌, refl, sym, ap, ◌∙◌, subst}
use mathlib.Core.Bool.{Bool, true, false, not, ◌||◌, cond, true≢false}
use mathlib.Core.List.{List}
use Prim.Native.Nat.{ℕ, ◌+◌, ◌≤◌, ◌<◌}
use native.Mathlib.Omega.{arith}
use lib.Dec.{T, eqb}
use lib.ListN.{length}
use lib.Pow.{are_bytes}
use borrow.Author.Tests.{le-ltb, eq-eqb, eqb-false}
use Rattle.kinds.specs.Last.{Last}
use Rattle.kinds.specs.declared.State.{State}
use Rattle.kinds.specs.Answers.{Answer, done, damaged, below_floor, already_pending, pending_full, absent}
use Rattle.rules.specs.Ids.{Id, same}
use Rattle.rules.specs.Ladder.{floor}
use Rattle.rules.specs.Board.{Board, Pending, Lawful}
use Rattle.rules.specs.Estimator.{is_pending, without, admit}
use Rattle.rules.specs.Memory.{pending_capacity, pending_records, lay_pending, sound_pending}
use Rattle.rules.specs.Calls.{Outcome, outcome, refused, enter_call, leave_call}
use Rattle.rules.proofs.All.{all_insert}
use Rattle.rules.proofs.Ids.{same_sym, up_insert, all_dropped, up_dropped, dropped_absent}
use Rattle.rules.proofs.Memory.{pending_length, pending_own}
use Rattle.rules.proofs.Well.{well_newcomer}
use Rattle.rules.proofs.Sound.{Tabled, tabled, pending_seen, pending_places, pending_over, pending_sound}
use Rattle.rules.proofs.Placing.{admit_free}
use Rattle.orders.specs.Orders.{Call, Entry, entering, leaving, in_turn, Holds, Commute, Orders, OrderPromise}
use Rattle.orders.proofs.Steps.{left_answer, new, with_new, low, fewer, come, came_answer, one_more, leaves_swap, leave_shows_not, entries_swap, entry_shows_not, left_shows_not, came_shows_not, apart_swap, come_and_gone}

module _ (k : Board) (law : Lawful k) (last : Last) (recent : ℕ) (xs : List ℕ) where
  -- the memory that holds rs: xs with them laid, and the state that says how many
  abbrev st : List Pending → State
  st rs = record { last = last; pending = length rs; recent = recent }

  abbrev tab : List Pending → List ℕ
  tab rs = lay_pending k rs xs

  -- its places
  abbrev places : ℕ
  places = pending_capacity k xs

  -- where memory holds rs, the call answers `answer rs` and leaves memory that holds `step rs`
  pub record Does (call : Call) (answer : List Pending → Answer) (step : List Pending → List Pending) : Type 0 where
    pub leads : {rs : List Pending} → Tabled k xs rs → call (st rs) (tab rs) ≡ outcome (answer rs) (st (step rs)) (tab (step rs))
    pub keeps : {rs : List Pending} → Tabled k xs rs → Tabled k xs (step rs)

  -- memory that already holds the records
  stays : (a : Answer) {rs qs : List Pending} → qs ≡ rs → outcome a (st rs) (tab rs) ≡ outcome a (st qs) (tab qs)
  stays a q = ap (λ (l : List Pending). outcome a (st l) (tab l)) (sym q)

  -- ---- a leave

  leave_leads : (i : Id) {rs : List Pending} → Tabled k xs rs → leaving k i (st rs) (tab rs) ≡ outcome (left_answer i rs) (st (without i rs)) (tab (without i rs))
  unfolding leave_call is_pending
  leave_leads i {rs} t = rw (pending_sound k law xs t, pending_seen k law xs t, pending_over k law xs t (without i rs)) (go (is_pending i rs) refl)
    where
      go : (b : Bool) → is_pending i rs ≡ b
          → cond (not b) (outcome absent (st rs) (tab rs)) (outcome done (st (without i rs)) (tab (without i rs))) ≡ outcome (cond b done absent) (st (without i rs)) (tab (without i rs))
      go true e = refl
      go false e = stays absent (dropped_absent (λ r. r.id) i rs e)

  leave_keeps : (i : Id) {rs : List Pending} → Tabled k xs rs → Tabled k xs (without i rs)
  leave_keeps i {rs} t = record { well = all_dropped (λ r. r.id) i t.well; up = up_dropped (λ r. r.id) i t.up; room = omega (arith, fewer i rs, t.room) }

  leaving_does : (i : Id) → Does (leaving k i) (left_answer i) (without i)
  leaving_does i = record { leads = leave_leads i; keeps = leave_keeps i }

  -- ---- an entry

  -- a place is free
  below_places : {rs : List Pending} → Tabled k xs rs → eqb (length rs) places ≡ false → length rs < places
  below_places {rs} t f = omega (arith, t.room, eqb-false (length rs) places f)

  entry_leads : (x : Entry) {rs : List Pending} → Tabled k xs rs → entering k x (st rs) (tab rs) ≡ outcome (came_answer places x rs) (st (come places x rs)) (tab (come places x rs))
  unfolding enter_call
  entry_leads x {rs} t =
      let qs = admit x.id x.rate.0 x.height.0 rs in
      rw (pending_sound k law xs t, pending_seen k law xs t, pending_places k law xs t, pending_over k law xs t qs) (go (low x) (is_pending x.id rs) (eqb (length rs) places) refl refl)
    where
      go : (a b c : Bool) → is_pending x.id rs ≡ b → eqb (length rs) places ≡ c
          → cond a (outcome below_floor (st rs) (tab rs)) (cond b (outcome already_pending (st rs) (tab rs)) (cond c (outcome pending_full (st rs) (tab rs))
          (outcome done (st (admit x.id x.rate.0 x.height.0 rs)) (tab (admit x.id x.rate.0 x.height.0 rs)))))
          ≡ outcome (cond a below_floor (cond b already_pending (cond c pending_full done))) (st (cond (a || (b || c)) rs (with_new x rs))) (tab (cond (a || (b || c)) rs (with_new x rs)))
      go true b c e f = refl
      go false true c e f = refl
      go false false true e f = refl
      go false false false e f =
          let h = below_places t f in
          stays done (sym (admit_free x.id x.rate.0 x.height.0 rs (record { absent = e; place = omega arith })))

  entry_keeps : (x : Entry) {rs : List Pending} → Tabled k xs rs → Tabled k xs (come places x rs)
  unfolding is_pending
  entry_keeps x {rs} t = go (low x) (is_pending x.id rs) (eqb (length rs) places) refl refl
    where
      go : (a b c : Bool) → is_pending x.id rs ≡ b → eqb (length rs) places ≡ c → Tabled k xs (cond (a || (b || c)) rs (with_new x rs))
      go true b c e f = t
      go false true c e f = t
      go false false true e f = t
      go false false false e f =
          let h = below_places t f in
          record {
            well = all_insert _ (new x) (well_newcomer x.id x.rate.0 x.height.0 x.id_long (omega (arith, x.height_small))) t.well;
            up = up_insert (λ r. r.id) (new x) e t.up;
            room = omega (arith, one_more x rs);
          }

  pub entering_does : (x : Entry) → Does (entering k x) (came_answer places x) (come places x)
  entering_does x = record { leads = entry_leads x; keeps = entry_keeps x }

  -- ---- one after the other

  module _ {p q : Call} {a b : List Pending → Answer} {f g : List Pending → List Pending} (d : Does p a f) (e : Does q b g) {rs : List Pending} (t : Tabled k xs rs) where
    turns : in_turn p q (st rs) (tab rs) ≡ outcome (b (f rs)) (st (g (f rs))) (tab (g (f rs)))
    turns = ap (λ (o : Outcome (List ℕ)). q o.state o.lent) (d.leads t) ∙ e.leads (d.keeps t)

    -- memory that is as it was
    restored : g (f rs) ≡ rs → Holds (in_turn p q (st rs) (tab rs)) (st rs) (tab rs)
    restored h = record { state = ap (λ (o : Outcome (List ℕ)). o.state) turns ∙ ap st h; lent = ap (λ (o : Outcome (List ℕ)). o.lent) turns ∙ ap tab h }

  -- steps that commute on the records, and that the other's answer does not show
  commuting : {p q : Call} {a b : List Pending → Answer} {f g : List Pending → List Pending} → Does p a f → Does q b g → {rs : List Pending} → Tabled k xs rs
      → g (f rs) ≡ f (g rs) → b (f rs) ≡ b rs → a (g rs) ≡ a rs → Commute p q (st rs) (tab rs)
  commuting {p} {q} d e {rs} t h i j =
      let x = turns d e t in
      let y = turns e d t in
      record {
        memory = record {
          state = ap (λ (o : Outcome (List ℕ)). o.state) x ∙ ap st h ∙ sym (ap (λ (o : Outcome (List ℕ)). o.state) y);
          lent = ap (λ (o : Outcome (List ℕ)). o.lent) x ∙ ap tab h ∙ sym (ap (λ (o : Outcome (List ℕ)). o.lent) y);
        };
        answer_of_q = ap (λ (o : Outcome (List ℕ)). o.answer) x ∙ i ∙ sym (ap (λ (o : Outcome (List ℕ)). o.answer) (e.leads t));
        answer_of_p = ap (λ (o : Outcome (List ℕ)). o.answer) y ∙ j ∙ sym (ap (λ (o : Outcome (List ℕ)). o.answer) (d.leads t));
      }

  -- ---- the laws, of memory that holds rs

  module _ {rs : List Pending} (t : Tabled k xs rs) where
    entries_law : (x y : Entry) → same x.id y.id ≡ false → is_pending x.id rs ≡ false → is_pending y.id rs ≡ false → length rs + 2 ≤ places → Commute (entering k x) (entering k y) (st rs) (tab rs)
    entries_law x y d p q h =
        commuting (entering_does x) (entering_does y) t (entries_swap places x y rs d p q h)
        (entry_shows_not places x y rs d p q h) (entry_shows_not places y x rs (same_sym y.id x.id ∙ d) q p h)

    leaves_law : (i j : Id) → same i j ≡ false → Commute (leaving k i) (leaving k j) (st rs) (tab rs)
    leaves_law i j d = commuting (leaving_does i) (leaving_does j) t (leaves_swap i j rs) (leave_shows_not i j rs d) (leave_shows_not j i rs (same_sym j i ∙ d))

    apart_law : (x : Entry) (i : Id) → same x.id i ≡ false → length rs < places → Commute (entering k x) (leaving k i) (st rs) (tab rs)
    apart_law x i d h = commuting (entering_does x) (leaving_does i) t (apart_swap places x i d rs h t.up) (left_shows_not places x i d rs) (came_shows_not places x i d rs h)

    undone_law : (x : Entry) → is_pending x.id rs ≡ false → Holds (in_turn (entering k x) (leaving k x.id) (st rs) (tab rs)) (st rs) (tab rs)
    undone_law x p = restored (entering_does x) (leaving_does x.id) t (come_and_gone places x p t.up)

-- ---- of whatever state is given and whatever bytes are lent

-- two calls that change nothing and answer the same, whatever came before
idle : (p q : Call) {a : Answer} {s : State} {xs : List ℕ} → p s xs ≡ refused a s xs → q s xs ≡ refused a s xs → in_turn p q s xs ≡ refused a s xs
idle p q e f = ap (λ (o : Outcome (List ℕ)). q o.state o.lent) e ∙ f

-- a table that is not sound is left as it is
module _ (k : Board) (s : State) (xs : List ℕ) (h : sound_pending k s.pending xs ≡ false) where
  no_leave : (i : Id) → leaving k i s xs ≡ refused damaged s xs
  unfolding leave_call
  no_leave i = rw h

  pub no_entry : (x : Entry) → entering k x s xs ≡ refused damaged s xs
  unfolding enter_call
  no_entry x = rw h

  both_idle : (p q : Call) → p s xs ≡ refused damaged s xs → q s xs ≡ refused damaged s xs → Commute p q s xs
  both_idle p q e f =
      let x = idle p q e f in
      let y = idle q p f e in
      record {
        memory = record { state = ap (λ (o : Outcome (List ℕ)). o.state) (x ∙ sym y); lent = ap (λ (o : Outcome (List ℕ)). o.lent) (x ∙ sym y) };
        answer_of_q = ap (λ (o : Outcome (List ℕ)). o.answer) (x ∙ sym f);
        answer_of_p = ap (λ (o : Outcome (List ℕ)). o.answer) (y ∙ sym e);
      }

  orders_damaged : Orders k s xs
  orders_damaged = record {
    entries = λ x y d p q r. both_idle (entering k x) (entering k y) (no_entry x) (no_entry y);
    leaves = λ i j d. both_idle (leaving k i) (leaving k j) (no_leave i) (no_leave j);
    apart = λ x i d r. both_idle (entering k x) (leaving k i) (no_entry x) (no_leave i);
    undone = λ x p. let e = idle (entering k x) (leaving k x.id) (no_entry x) (no_leave x.id) in
        record { state = ap (λ (o : Outcome (List ℕ)). o.state) e; lent = ap (λ (o : Outcome (List ℕ)). o.lent) e };
    full = λ x f g p e. absurd (true≢false (sym g ∙ h));
  }

-- a sound one holds its records
module _ (k : Board) (law : Lawful k) (s : State) (xs : List ℕ) (b : T (are_bytes xs)) (h : sound_pending k s.pending xs ≡ true) where
  abbrev rs : List Pending
  rs = pending_records k s.pending xs

  many : length rs ≡ s.pending
  many = pending_length k s.pending xs

  pub fine : Tabled k xs rs
  fine = tabled k law s.pending xs h b

  -- what holds of the memory that holds them holds of what was given
  pub given : (P : State → List ℕ → Type 0) → P (record { last = s.last; pending = length rs; recent = s.recent }) (lay_pending k rs xs) → P s xs
  given P p =
      subst (λ (n : ℕ). P (record { last = s.last; pending = n; recent = s.recent }) xs) many
      (subst (P (record { last = s.last; pending = length rs; recent = s.recent })) (pending_own k law s.pending xs h b) p)

  no_room : (x : Entry) → floor ≤ x.rate.0 → is_pending x.id rs ≡ false → s.pending ≡ pending_capacity k xs → entering k x s xs ≡ refused pending_full s xs
  unfolding enter_call
  no_room x f p e = rw (h, le-ltb x.rate.0 floor f, p, eq-eqb s.pending (pending_capacity k xs) e)

  not_there : (i : Id) → is_pending i rs ≡ false → leaving k i s xs ≡ refused absent s xs
  unfolding leave_call
  not_there i p = rw (h, p)

  orders_sound : Orders k s xs
  orders_sound = record {
    entries = λ x y d p q r. given (Commute (entering k x) (entering k y)) (entries_law k law s.last s.recent xs fine x y d p q (omega (arith, many)));
    leaves = λ i j d. given (Commute (leaving k i) (leaving k j)) (leaves_law k law s.last s.recent xs fine i j d);
    apart = λ x i d r. given (Commute (entering k x) (leaving k i)) (apart_law k law s.last s.recent xs fine x i d (omega (arith, many)));
    undone = λ x p. given (λ t ys. Holds (in_turn (entering k x) (leaving k x.id) t ys) t ys) (undone_law k law s.last s.recent xs fine x p);
    full = λ x f g p e. (no_room x f p e, ap (λ (o : Outcome (List ℕ)). leaving k x.id o.state o.lent) (no_room x f p e) ∙ not_there x.id p);
  }

pub order_promise : (k : Board) → Lawful k → OrderPromise k
unfolding OrderPromise
order_promise k law s xs b = go (sound_pending k s.pending xs) refl
  where
    go : (t : Bool) → sound_pending k s.pending xs ≡ t → Orders k s xs
    go true h = orders_sound k law s xs b h
    go false h = orders_damaged k s xs h
