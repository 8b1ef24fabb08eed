-- Entries of different ids, none pending, with a free place for each, are all put in but those below the floor, and in any order make the same records. Assumes nothing.
use mathlib.Core.Path.{◌≡◌, refl, sym, ap, ◌∙◌, subst}
use mathlib.Core.Bool.{Bool, true, false, not, ◌&&◌}
use mathlib.Core.List.{List, [], ◌∷◌}
use Prim.Native.Nat.{ℕ, suc, ◌+◌, ◌≤◌}
use native.Mathlib.Omega.{arith}
use lib.ListN.{length}
use borrow.Author.Tests.{not-true}
use Rattle.kinds.specs.Last.{Last}
use Rattle.kinds.specs.declared.State.{State}
use Rattle.rules.specs.Lists.{every}
use Rattle.rules.specs.Ids.{same}
use Rattle.rules.specs.Board.{Board, Pending, Lawful}
use Rattle.rules.specs.Estimator.{is_pending}
use Rattle.rules.specs.Memory.{pending_capacity, lay_pending, sound_pending}
use Rattle.rules.specs.Calls.{Outcome}
use Rattle.rules.proofs.Ids.{same_sym}
use Rattle.rules.proofs.Memory.{pending_length}
use Rattle.rules.proofs.Records.{and_left, and_right, and_both}
use Rattle.rules.proofs.Sound.{Tabled}
use Rattle.orders.specs.Orders.{Entry, Holds}
use Rattle.orders.specs.Feeds.{entering_all, distinct, Reordered, as_they_are, swapped, after, and_then, FeedPromise}
use Rattle.orders.proofs.Steps.{come, put, comes, at_most_one, put_shows_not, entries_swap}
use Rattle.orders.proofs.Calls.{entering_does, no_entry, fine, given}

-- ---- what is asked of entries does not depend on their order

and_swap : (a b c : Bool) → (a && (b && c)) ≡ (b && (a && c))
and_swap true b c = refl
and_swap false true c = refl
and_swap false false c = refl

every_reordered : (p : Entry → Bool) {es fs : List Entry} → Reordered es fs → every p es ≡ every p fs
unfolding every
every_reordered p as_they_are = refl
every_reordered p (swapped x y {es}) = and_swap (p x) (p y) (every p es)
every_reordered p (after x r) = ap (λ (b : Bool). p x && b) (every_reordered p r)
every_reordered p (and_then r q) = every_reordered p r ∙ every_reordered p q

length_reordered : {es fs : List Entry} → Reordered es fs → length es ≡ length fs
length_reordered as_they_are = refl
length_reordered (swapped x y) = refl
length_reordered (after x r) = ap suc (length_reordered r)
length_reordered (and_then r q) = length_reordered r ∙ length_reordered q

distinct_reordered : {es fs : List Entry} → Reordered es fs → distinct es ≡ true → distinct fs ≡ true
unfolding distinct every
distinct_reordered as_they_are d = d
distinct_reordered (swapped x y {es}) d =
    let of_x = and_left (every (λ z. not (same x.id z.id)) (y ∷ es)) (distinct (y ∷ es)) d in
    let of_y = and_right (every (λ z. not (same x.id z.id)) (y ∷ es)) (distinct (y ∷ es)) d in
    and_both (and_both (ap not (same_sym y.id x.id) ∙ and_left (not (same x.id y.id)) _ of_x) (and_left (every (λ z. not (same y.id z.id)) es) (distinct es) of_y))
    (and_both (and_right (not (same x.id y.id)) _ of_x) (and_right (every (λ z. not (same y.id z.id)) es) (distinct es) of_y))
distinct_reordered (after x {es} {fs} r) d =
    let p : Entry → Bool = λ z. not (same x.id z.id) in
    and_both (sym (every_reordered p r) ∙ and_left (every p es) (distinct es) d) (distinct_reordered r (and_right (every p es) (distinct es) d))
distinct_reordered (and_then r q) d = distinct_reordered q (distinct_reordered r d)

-- ---- of records, in a table of n places

module _ (n : ℕ) where
  -- all may come
  record Welcome (rs : List Pending) (es : List Entry) : Type 0 where
    new_ids : every (λ x. not (is_pending x.id rs)) es ≡ true
    apart : distinct es ≡ true
    room : length rs + length es ≤ n

  welcome_reordered : {rs : List Pending} {es fs : List Entry} → Reordered es fs → Welcome rs es → Welcome rs fs
  welcome_reordered {rs} r w = record {
    new_ids = sym (every_reordered (λ x. not (is_pending x.id rs)) r) ∙ w.new_ids;
    apart = distinct_reordered r w.apart;
    room = omega (arith, length_reordered r, w.room);
  }

  abbrev come_all : List Entry → List Pending → List Pending
  come_all [] rs = rs
  come_all (x ∷ es) rs = come_all es (come n x rs)

  module _ (x : Entry) {rs : List Pending} {es : List Entry} (w : Welcome rs (x ∷ es)) where
    first_new : is_pending x.id rs ≡ false
    unfolding every
    first_new = not-true _ (and_left (not (is_pending x.id rs)) _ w.new_ids)

    put_in : come n x rs ≡ put x rs
    put_in = comes n x rs first_new (omega (arith, w.room))

    -- once the first has come, the others may
    still_new : (ys : List Entry) → every (λ y. not (same x.id y.id)) ys ≡ true → every (λ y. not (is_pending y.id rs)) ys ≡ true → every (λ y. not (is_pending y.id (put x rs))) ys ≡ true
    unfolding every
    still_new [] d h = refl
    still_new (y ∷ ys) d h =
        let other = not-true _ (and_left (not (same x.id y.id)) _ d) in
        and_both (ap not (put_shows_not x y.id rs other) ∙ and_left (not (is_pending y.id rs)) _ h)
        (still_new ys (and_right (not (same x.id y.id)) _ d) (and_right (not (is_pending y.id rs)) _ h))

    next_welcome : Welcome (come n x rs) es
    unfolding every distinct
    next_welcome = subst (λ (l : List Pending). Welcome l es) (sym put_in) (record {
      new_ids = still_new es (and_left (every (λ y. not (same x.id y.id)) es) (distinct es) w.apart) (and_right (not (is_pending x.id rs)) _ w.new_ids);
      apart = and_right (every (λ y. not (same x.id y.id)) es) (distinct es) w.apart;
      room = omega (arith, at_most_one x rs, w.room);
    })

  come_reordered : {rs : List Pending} {es fs : List Entry} → Reordered es fs → Welcome rs es → come_all es rs ≡ come_all fs rs
  unfolding every distinct
  come_reordered as_they_are w = refl
  come_reordered {rs} (swapped x y {es}) w =
      let d = not-true _ (and_left (not (same x.id y.id)) _ (and_left (every (λ z. not (same x.id z.id)) (y ∷ es)) (distinct (y ∷ es)) w.apart)) in
      let q = not-true _ (and_left (not (is_pending y.id rs)) _ (and_right (not (is_pending x.id rs)) _ w.new_ids)) in
      ap (come_all es) (entries_swap n x y rs d (first_new x w) q (omega (arith, w.room)))
  come_reordered {rs = rs} (after x {es = es} {fs = fs} r) w = come_reordered {rs = come n x rs} r (next_welcome x w)
  come_reordered (and_then r q) w = come_reordered r w ∙ come_reordered q (welcome_reordered r w)

-- ---- of memory that holds records, and of whatever is given

module _ (k : Board) (law : Lawful k) (last : Last) (recent : ℕ) (xs : List ℕ) where
  -- memory that holds records
  abbrev Held : Outcome (List ℕ) → List Pending → Type 0
  Held o rs = Holds o (record { last = last; pending = length rs; recent = recent }) (lay_pending k rs xs)

  abbrev all_come : List Entry → List Pending → List Pending
  all_come es rs = come_all (pending_capacity k xs) es rs

  holds_all : (es : List Entry) {rs : List Pending} → Tabled k xs rs → Held (entering_all k es (record { last = last; pending = length rs; recent = recent }) (lay_pending k rs xs)) (all_come es rs)
  unfolding entering_all
  holds_all [] t = record { state = refl; lent = refl }
  holds_all (x ∷ es) {rs} t =
      let does = entering_does k law last recent xs x in
      subst (λ (o : Outcome (List ℕ)). Held (entering_all k es o.state o.lent) (all_come (x ∷ es) rs)) (sym (does.leads t)) (holds_all es (does.keeps t))

-- damaged memory is left as it is
untouched : (k : Board) (s : State) (xs : List ℕ) → sound_pending k s.pending xs ≡ false → (es : List Entry) → Holds (entering_all k es s xs) s xs
unfolding entering_all
untouched k s xs h [] = record { state = refl; lent = refl }
untouched k s xs h (x ∷ es) = subst (λ (o : Outcome (List ℕ)). Holds (entering_all k es o.state o.lent) s xs) (sym (no_entry k s xs h x)) (untouched k s xs h es)

pub feed_promise : (k : Board) → Lawful k → FeedPromise k
unfolding FeedPromise
feed_promise k law s xs b es fs r d f room = go (sound_pending k s.pending xs) refl
  where
    SameMemory : State → List ℕ → Type 0
    SameMemory t ys = Holds (entering_all k es t ys) (entering_all k fs t ys).state (entering_all k fs t ys).lent

    go : (t : Bool) → sound_pending k s.pending xs ≡ t → SameMemory s xs
    go true h =
        let t = fine k law s xs b h in
        let p = holds_all k law s.last s.recent xs es t in
        let q = holds_all k law s.last s.recent xs fs t in
        let e = come_reordered (pending_capacity k xs) r (record { new_ids = f; apart = d; room = omega (arith, pending_length k s.pending xs, room) }) in
        given k law s xs b h SameMemory (record {
          state = p.state ∙ ap (λ (rs : List Pending). record { last = s.last; pending = length rs; recent = s.recent }) e ∙ sym q.state;
          lent = p.lent ∙ ap (λ (rs : List Pending). lay_pending k rs xs) e ∙ sym q.lent;
        })
    go false h =
        let p = untouched k s xs h es in
        let q = untouched k s xs h fs in
        record { state = p.state ∙ sym q.state; lent = p.lent ∙ sym q.lent }
