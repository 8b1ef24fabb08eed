-- Blocks that list nothing, as calls: memory that holds an estimator holds the next one after each of them, and what they leave is what the block at B would have
-- found. Assumes nothing.
use mathlib.Core.Path.{◌≡◌, refl, sym, ap, ◌∙◌, subst}
use mathlib.Core.Bool.{Bool, true, false, not, ◌&&◌, cond}
use mathlib.Core.List.{List, [], ◌∷◌}
use Prim.Native.Nat.{ℕ, ◌-◌, ◌%◌, ◌^◌, ◌≤◌, ◌<◌}
use native.Mathlib.Nat.{le_trans, lt_trans}
use native.Mathlib.Omega.{arith}
use lib.Dec.{leb, ltb, eqb}
use lib.ListN.{length}
use borrow.Author.Tests.{leb-true, ltb-true, ltb-false, le-ltb, lt-ltb, eq-eqb}
use Rattle.kinds.specs.declared.Height.{Height}
use Rattle.kinds.specs.declared.State.{State}
use Rattle.kinds.specs.Last.{Last}
use Rattle.kinds.specs.Answers.{done, bad_list, gap_too_wide, confirmed_full}
use Rattle.rules.specs.Board.{Board, Lawful}
use Rattle.rules.specs.Records.{records}
use Rattle.rules.specs.Estimator.{Estimator, confirm_all, block_connected}
use Rattle.rules.specs.Memory.{Lent, confirmed_capacity, sound, view, state_of, lay}
use Rattle.rules.specs.Calls.{Outcome, outcome, refused, accepted, gap, widest_gap, ids_of, held_once_listed, block_call}
use Rattle.rules.proofs.All.{none}
use Rattle.rules.proofs.Memory.{Room, state_of_view, lay_of_view}
use Rattle.rules.proofs.Records.{and_left, and_right}
use Rattle.rules.proofs.Well.{Well, well_block}
use Rattle.rules.proofs.Sound.{lay_sound}
use Rattle.rules.proofs.Room.{within_skip, fewer_recent, fewer_pending}
use Rattle.floats.specs.Factor.{Factor}
use Rattle.floats.proofs.Steady.{Steady, steady_block}
use Rattle.ready.proofs.Ready.{seen, relaid, same_recent}
use Rattle.ready.proofs.Stays.{Typed, counts_sound, steady, well, room}
use Rattle.orders.specs.Gaps.{climbing, near, last_of, empty_steps, empty_calls, all_done, then_block, alone, Crossed, GapPromise}
use Rattle.orders.proofs.Heights.{at, under, none_below, last_above, gap_steps}

module _ (k : Board) (law : Lawful k) (d : Factor k.decay) (l : Lent) where
  -- an estimator that can be laid into l, and taken for sound
  record Fine (e : Estimator) : Type 0 where
    well : Well e
    steady : Steady e
    room : Room k e l

  -- a list of none makes no confirmed record
  empty_room : (h : ℕ) (e : Estimator) → held_once_listed k [] h e ≤ length e.recent
  unfolding held_once_listed confirm_all
  empty_room h e = (within_skip k e.last h e).recent

  fine_next : (h : ℕ) (e : Estimator) → h < 256 ^ 4 → Fine e → Fine (block_connected k [] h e)
  fine_next h e b f =
      record {
        well = well_block k h e none b f.well;
        steady = steady_block k d [] h e f.steady;
        room = record { pending = le_trans (fewer_pending k [] h e) f.room.pending; recent = le_trans (fewer_recent k [] h e) (le_trans (empty_room h e) f.room.recent) };
      }

  -- ---- a block on memory that holds an estimator

  -- it is refused, or leaves memory that holds the next one
  abbrev judged : List ℕ → Height → Estimator → Outcome Lent
  judged ids B e =
      cond (not (eqb (length ids % 32) 0)) (refused bad_list (state_of e) (lay k e l))
      (cond (ltb widest_gap (gap e.last B)) (refused gap_too_wide (state_of e) (lay k e l))
      (cond (ltb (confirmed_capacity l.recent) (held_once_listed k (ids_of ids) B.0 e)) (refused confirmed_full (state_of e) (lay k e l))
      (accepted k (block_connected k (ids_of ids) B.0 e) l)))

  block_is : (ids : List ℕ) (B : Height) (e : Estimator) → Fine e → block_call k (state_of e) (lay k e l) ids B ≡ judged ids B e
  unfolding block_call state_of
  block_is ids B e f =
      let v = seen k law e l f.well in
      rw (
        lay_sound k law e l f.well (counts_sound f.steady) f.room,
        same_recent k law e l f.well f.room,
        v,
        relaid k law e (block_connected k (ids_of ids) B.0 e) l f.well f.room,
      )

  -- ---- one that lists nothing

  empty_is : (h L : ℕ) (e : Estimator) → Fine e → e.last ≡ at L → h - L ≤ widest_gap → block_call k (state_of e) (lay k e l) [] (record { 0 = h }) ≡ accepted k (block_connected k [] h e) l
  unfolding gap ids_of records
  empty_is h L e f a n = block_is [] (record { 0 = h }) e f ∙ rw (le-ltb (confirmed_capacity l.recent) (held_once_listed k [] h e) (le_trans (empty_room h e) f.room.recent), a, le-ltb widest_gap (h - L) n)

  -- ---- any number of them

  -- what they lead to from an estimator: each is Done, and memory holds what document 01's steps leave
  record Led (L : ℕ) (hs : List ℕ) (e : Estimator) : Type 0 where
    done_all : all_done k hs (state_of e) (lay k e l) ≡ true
    leaves : empty_calls k hs (state_of e) (lay k e l) ≡ outcome done (state_of (empty_steps k hs e)) (lay k (empty_steps k hs e) l)
    fine : Fine (empty_steps k hs e)
    last : (empty_steps k hs e).last ≡ at (last_of L hs)

  leads : (hs : List ℕ) (L B : ℕ) (e : Estimator) → Fine e → e.last ≡ at L → climbing L hs B ≡ true → near L hs ≡ true → B < 256 ^ 4 → Led L hs e
  unfolding all_done empty_calls empty_steps last_of climbing near
  leads [] L B e f a c n b = record { done_all = refl; leaves = refl; fine = f; last = a }
  leads (h ∷ hs) L B e f a c n b =
      let p = ltb-true L h (and_left (ltb L h) _ c) in
      let c' = and_right (ltb L h) _ c in
      let u = under h hs B c' in
      let g : Estimator = block_connected k [] h e in
      let i = empty_is h L e f a (leb-true (h - L) widest_gap (and_left (leb (h - L) widest_gap) _ n)) in
      let r = leads hs h B g (fine_next h e (lt_trans u b) f) (last_above k e L a h p) c' (and_right (leb (h - L) widest_gap) _ n) b in
      record {
        done_all = ap (λ (o : Outcome Lent). eqb o.answer.number 0 && all_done k hs o.state o.lent) i ∙ r.done_all;
        leaves = ap (λ (o : Outcome Lent). empty_calls k hs o.state o.lent) i ∙ r.leaves;
        fine = r.fine;
        last = r.last;
      }

  -- ---- and then a block

  -- the three tests of a block on sound memory, each passed
  record Passed (ids : List ℕ) (B : ℕ) (e : Estimator) : Type 0 where
    whole : eqb (length ids % 32) 0 ≡ true
    close : ltb widest_gap (gap e.last (record { 0 = B })) ≡ false
    free : ltb (confirmed_capacity l.recent) (held_once_listed k (ids_of ids) B e) ≡ false

  passes : (ids : List ℕ) (B : ℕ) (e : Estimator) → (judged ids (record { 0 = B }) e).answer.number ≡ 0 → Passed ids B e
  passes ids B e z = go (eqb (length ids % 32) 0) (ltb widest_gap (gap e.last (record { 0 = B }))) (ltb (confirmed_capacity l.recent) (held_once_listed k (ids_of ids) B e)) refl refl refl z
    where
      go : (x y w : Bool) → eqb (length ids % 32) 0 ≡ x → ltb widest_gap (gap e.last (record { 0 = B })) ≡ y → ltb (confirmed_capacity l.recent) (held_once_listed k (ids_of ids) B e) ≡ w
          → (cond (not x) (refused bad_list (state_of e) (lay k e l)) (cond y (refused gap_too_wide (state_of e) (lay k e l)) (cond w (refused confirmed_full (state_of e) (lay k e l)) (accepted k (block_connected k (ids_of ids) B e) l)))).answer.number ≡ 0
          → Passed ids B e
      go true false false p q r z = record { whole = p; close = q; free = r }
      go true false true p q r z = absurd (omega arith)
      go true true w p q r z = absurd (omega arith)
      go false y w p q r z = absurd (omega arith)

  passed : (ids : List ℕ) (B : ℕ) (e : Estimator) → Passed ids B e → judged ids (record { 0 = B }) e ≡ accepted k (block_connected k (ids_of ids) B e) l
  passed ids B e p = rw (p.whole, p.close, p.free)

  -- all of it, from memory that holds e
  module _ (e : Estimator) (f : Fine e) (L : ℕ) (a : e.last ≡ at L) (hs ids : List ℕ) (B : ℕ) (c : climbing L hs B ≡ true) (n : near L hs ≡ true) (b : B < 256 ^ 4) where
    -- what they leave
    abbrev g : Estimator
    g = empty_steps k hs e

    led : Led L hs e
    led = leads hs L B e f a c n b

    then_is : then_block k hs ids B (state_of e) (lay k e l) ≡ judged ids (record { 0 = B }) g
    then_is = ap (λ (o : Outcome Lent). block_call k o.state o.lent ids (record { 0 = B })) led.leaves ∙ block_is ids (record { 0 = B }) g led.fine

    alone_is : alone k ids B (state_of e) (lay k e l) ≡ judged ids (record { 0 = B }) e
    alone_is = block_is ids (record { 0 = B }) e f

    -- where they are passed, all is as document 01's one step leaves it
    stepped : Passed ids B g → then_block k hs ids B (state_of e) (lay k e l) ≡ accepted k (block_connected k (ids_of ids) B e) l
    stepped p = then_is ∙ passed ids B g p ∙ ap (λ (x : Estimator). accepted k x l) ((gap_steps k e).many L hs B (ids_of ids) a c)

    -- they make no room, and take none
    same_room : held_once_listed k (ids_of ids) B g ≡ held_once_listed k (ids_of ids) B e
    same_room = (gap_steps k e).room L hs B (ids_of ids) a c

    -- where its list is whole ids and it is near enough, the third test is left
    close_after : B - last_of L hs ≤ widest_gap → ltb widest_gap (gap g.last (record { 0 = B })) ≡ false
    unfolding gap
    close_after q = ap (λ (t : Last). ltb widest_gap (gap t (record { 0 = B }))) led.last ∙ le-ltb widest_gap (B - last_of L hs) q

    answer_after : length ids % 32 ≡ 0 → B - last_of L hs ≤ widest_gap
        → (then_block k hs ids B (state_of e) (lay k e l)).answer ≡ cond (ltb (confirmed_capacity l.recent) (held_once_listed k (ids_of ids) B e)) confirmed_full done
    answer_after p q = ap (λ (o : Outcome Lent). o.answer) then_is ∙ rw (eq-eqb (length ids % 32) 0 p, close_after q, same_room) (go (ltb (confirmed_capacity l.recent) (held_once_listed k (ids_of ids) B e)))
      where
        go : (t : Bool) → (cond t (refused confirmed_full (state_of g) (lay k g l)) (accepted k (block_connected k (ids_of ids) B g) l)).answer ≡ cond t confirmed_full done
        go true = refl
        go false = refl

    -- what is promised, of memory t and m that holds e
    record Over (t : State) (m : Lent) : Type 0 where
      answered : all_done k hs t m ≡ true
      as_one_step : (then_block k hs ids B t m).answer.number ≡ 0 → then_block k hs ids B t m ≡ accepted k (block_connected k (ids_of ids) B e) l
      finds_room : length ids % 32 ≡ 0 → B - last_of L hs ≤ widest_gap → (then_block k hs ids B t m).answer ≡ cond (ltb (confirmed_capacity l.recent) (held_once_listed k (ids_of ids) B e)) confirmed_full done
      as_alone : (alone k ids B t m).answer.number ≡ 0 → then_block k hs ids B t m ≡ alone k ids B t m
      too_far : length ids % 32 ≡ 0 → widest_gap < B - L → alone k ids B t m ≡ refused gap_too_wide t m

    over : Over (state_of e) (lay k e l)
    unfolding gap
    over = record {
      answered = led.done_all;
      as_one_step = λ z. stepped (passes ids B g (sym (ap (λ (o : Outcome Lent). o.answer.number) then_is) ∙ z));
      finds_room = answer_after;
      as_alone = λ z.
          let p = passes ids B e (sym (ap (λ (o : Outcome Lent). o.answer.number) alone_is) ∙ z) in
          let near_enough = ltb-false widest_gap (B - L) (sym (ap (λ (t : Last). ltb widest_gap (gap t (record { 0 = B }))) a) ∙ p.close) in
          stepped (record { whole = p.whole; close = close_after (omega (arith, none_below L hs B c)); free = ap (ltb (confirmed_capacity l.recent)) same_room ∙ p.free })
          ∙ sym (alone_is ∙ passed ids B e p);
      too_far = λ p q. alone_is ∙ rw (eq-eqb (length ids % 32) 0 p, a, lt-ltb widest_gap (B - L) q);
    }

crossed : (k : Board) → Lawful k → Factor k.decay → (s : State) (l : Lent) → Typed l → sound k s l ≡ true → (L : ℕ) → s.last ≡ at L
    → (hs ids : List ℕ) (B : ℕ) → climbing L hs B ≡ true → near L hs ≡ true → B < 2 ^ 32 → Crossed k s l L hs ids B
unfolding view
crossed k law d s l t h L a hs ids B c n b =
    let e = view k s l in
    let f : Fine k law d l e = record { well = well k law d s l h t; steady = steady k law d s l h t; room = room k law d s l h t } in
    let P : State → Lent → Type 0 = Over k law d l e f L a hs ids B c n b in
    let o : P s l = subst (λ (x : State). P x l) (state_of_view k s l) (subst (P (state_of e)) (lay_of_view k law s l h t.pending t.recent) (over k law d l e f L a hs ids B c n b)) in
    record {
      answered = o.answered;
      as_one_step = o.as_one_step;
      finds_room = o.finds_room;
      as_alone = o.as_alone;
      too_far = o.too_far;
    }

pub gap_promise : (k : Board) → Lawful k → Factor k.decay → GapPromise k
gap_promise k law d = record { steps = gap_steps k; calls = crossed k law d }
