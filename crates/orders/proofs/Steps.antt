-- An entry and a leave as steps on the pending records: what each answers, which records it leaves, and how two of them go together. Assumes nothing.
use mathlib.Core.Path.{◌≡◌, refl, sym, ap, ◌∙◌}
use mathlib.Core.Bool.{Bool, true, false, not, ◌||◌, cond}
use mathlib.Core.List.{List}
use Prim.Native.Nat.{ℕ, ◌+◌, ◌≤◌, ◌<◌}
use native.Mathlib.Omega.{arith}
use lib.Dec.{ltb, eqb}
use lib.ListN.{length}
use borrow.Author.Tests.{ne_eqb}
use Rattle.kinds.specs.Answers.{Answer, done, below_floor, already_pending, pending_full, absent}
use Rattle.rules.specs.Ids.{Id, same, below, dropped}
use Rattle.rules.specs.Ladder.{floor}
use Rattle.rules.specs.Board.{Pending}
use Rattle.rules.specs.Estimator.{is_pending, without}
use Rattle.rules.proofs.Ids.{same_sym, Up, dropped_absent}
use Rattle.rules.proofs.Room.{length_insert, length_keep}
use Rattle.rules.proofs.Well.{newcomer}
use Rattle.rules.proofs.Placing.{ordered, dropped_swap, dropped_ordered, ordered_gone, ordered_swap, any_dropped, any_ordered}
use Rattle.orders.specs.Orders.{Entry}

-- what a leave answers
abbrev pub left_answer : Id → List Pending → Answer
left_answer i rs = cond (is_pending i rs) done absent

-- the record of an entry
abbrev pub new : Entry → Pending
new x = newcomer x.id x.rate.0 x.height.0

-- the records with one more
abbrev pub with_new : Entry → List Pending → List Pending
with_new x rs = ordered (λ r. r.id) (new x) rs

-- its rate is below the floor
abbrev pub low : Entry → Bool
low x = ltb x.rate.0 floor

-- the records after an entry of a new id that finds a place: below the floor it is not put in
abbrev pub put : Entry → List Pending → List Pending
put x rs = cond (low x) rs (with_new x rs)

-- ---- a leave and a leave

-- another's record is there or not as before
still_there : (i j : Id) (rs : List Pending) → same i j ≡ false → is_pending j (without i rs) ≡ is_pending j rs
unfolding is_pending
still_there i j rs d = any_dropped (λ r. r.id) i j rs d

pub leaves_swap : (i j : Id) (rs : List Pending) → without j (without i rs) ≡ without i (without j rs)
leaves_swap i j rs = dropped_swap (λ r. r.id) j i rs

pub leave_shows_not : (i j : Id) (rs : List Pending) → same i j ≡ false → left_answer j (without i rs) ≡ left_answer j rs
leave_shows_not i j rs d = ap (λ (b : Bool). cond b done absent) (still_there i j rs d)

-- no more records than before
pub fewer : (i : Id) (rs : List Pending) → length (without i rs) ≤ length rs
unfolding dropped
fewer i rs = length_keep (λ r. not (same r.id i)) rs

-- ---- an entry into a table of n places

pub one_more : (x : Entry) (rs : List Pending) → length (with_new x rs) ≡ length rs + 1
one_more x rs = omega (arith, length_insert (λ a b. below a.id b.id) (new x) rs)

others_there : (x : Entry) (i : Id) (rs : List Pending) → same x.id i ≡ false → is_pending i (with_new x rs) ≡ is_pending i rs
unfolding is_pending
others_there x i rs d = any_ordered (λ r. r.id) (new x) i rs d

-- at most one record more than before
pub at_most_one : (x : Entry) (rs : List Pending) → length (put x rs) ≤ length rs + 1
at_most_one x rs = go (low x)
  where
    go : (b : Bool) → length (cond b rs (with_new x rs)) ≤ length rs + 1
    go true = omega arith
    go false = omega (arith, one_more x rs)

-- another's record is there or not as before
pub put_shows_not : (x : Entry) (i : Id) (rs : List Pending) → same x.id i ≡ false → is_pending i (put x rs) ≡ is_pending i rs
put_shows_not x i rs d = go (low x)
  where
    go : (b : Bool) → is_pending i (cond b rs (with_new x rs)) ≡ is_pending i rs
    go true = refl
    go false = others_there x i rs d

puts_swap : (x y : Entry) (rs : List Pending) → same y.id x.id ≡ false → put y (put x rs) ≡ put x (put y rs)
puts_swap x y rs d = go (low x) (low y)
  where
    go : (b c : Bool) → cond c (cond b rs (with_new x rs)) (with_new y (cond b rs (with_new x rs))) ≡ cond b (cond c rs (with_new y rs)) (with_new x (cond c rs (with_new y rs)))
    go true c = refl
    go false true = refl
    go false false = ordered_swap (λ r. r.id) (new y) (new x) rs d

module _ (n : ℕ) where
  -- it is put in, unless its rate is below the floor, its id pending or the table full
  abbrev pub come : Entry → List Pending → List Pending
  come x rs = cond (low x || (is_pending x.id rs || eqb (length rs) n)) rs (with_new x rs)

  abbrev pub came_answer : Entry → List Pending → Answer
  came_answer x rs = cond (low x) below_floor (cond (is_pending x.id rs) already_pending (cond (eqb (length rs) n) pending_full done))

  not_full : (rs : List Pending) → length rs < n → eqb (length rs) n ≡ false
  not_full rs h = ne_eqb (length rs) n (λ e. omega arith)

  -- a new id that finds a place
  pub comes : (x : Entry) (rs : List Pending) → is_pending x.id rs ≡ false → length rs < n → come x rs ≡ put x rs
  comes x rs p h = rw (p, not_full rs h) (go (low x))
    where
      go : (b : Bool) → cond (b || false) rs (with_new x rs) ≡ cond b rs (with_new x rs)
      go true = refl
      go false = refl

  -- ---- two entries of new ids that find places

  module _ (x y : Entry) (rs : List Pending) (d : same x.id y.id ≡ false) (p : is_pending x.id rs ≡ false) (q : is_pending y.id rs ≡ false) (h : length rs + 2 ≤ n) where
    one_comes : come x rs ≡ put x rs
    one_comes = comes x rs p (omega arith)

    other_free : is_pending y.id (put x rs) ≡ false
    other_free = put_shows_not x y.id rs d ∙ q

    other_place : length (put x rs) < n
    other_place = omega (arith, at_most_one x rs)

    both_come : come y (come x rs) ≡ put y (put x rs)
    both_come = ap (come y) one_comes ∙ comes y (put x rs) other_free other_place

    pub entry_shows_not : came_answer y (come x rs) ≡ came_answer y rs
    entry_shows_not = ap (came_answer y) one_comes ∙ rw (other_free, not_full (put x rs) other_place, q, not_full rs (omega arith))

  pub entries_swap : (x y : Entry) (rs : List Pending) → same x.id y.id ≡ false → is_pending x.id rs ≡ false → is_pending y.id rs ≡ false → length rs + 2 ≤ n
      → come y (come x rs) ≡ come x (come y rs)
  entries_swap x y rs d p q h =
      let c = same_sym y.id x.id ∙ d in
      both_come x y rs d p q h ∙ puts_swap x y rs c ∙ sym (both_come y x rs c q p h)

  -- ---- an entry and a leave of another id, where a place is free

  module _ (x : Entry) (i : Id) (d : same x.id i ≡ false) where
    pub left_shows_not : (rs : List Pending) → left_answer i (come x rs) ≡ left_answer i rs
    left_shows_not rs = go (low x || (is_pending x.id rs || eqb (length rs) n))
      where
        go : (t : Bool) → left_answer i (cond t rs (with_new x rs)) ≡ left_answer i rs
        go true = refl
        go false = ap (λ (b : Bool). cond b done absent) (others_there x i rs d)

    module _ (rs : List Pending) (h : length rs < n) where
      still : is_pending x.id (without i rs) ≡ is_pending x.id rs
      still = still_there i x.id rs (same_sym i x.id ∙ d)

      room_left : eqb (length (without i rs)) n ≡ false
      room_left = not_full (without i rs) (omega (arith, fewer i rs))

      pub came_shows_not : came_answer x (without i rs) ≡ came_answer x rs
      came_shows_not = rw (still, room_left, not_full rs h)

      pub apart_swap : Up (λ r. r.id) rs → without i (come x rs) ≡ come x (without i rs)
      apart_swap u = rw (still, room_left, not_full rs h) (go (low x || (is_pending x.id rs || false)))
        where
          go : (t : Bool) → without i (cond t rs (with_new x rs)) ≡ cond t (without i rs) (with_new x (without i rs))
          go true = refl
          go false = dropped_ordered (λ r. r.id) i (new x) d u

  -- ---- an entry and the leave that undoes it

  pub come_and_gone : (x : Entry) {rs : List Pending} → is_pending x.id rs ≡ false → Up (λ r. r.id) rs → without x.id (come x rs) ≡ rs
  unfolding is_pending
  come_and_gone x {rs} p u = rw p (go (low x || eqb (length rs) n))
    where
      go : (t : Bool) → without x.id (cond t rs (with_new x rs)) ≡ rs
      go true = dropped_absent (λ r. r.id) x.id rs p
      go false = ordered_gone (λ r. r.id) (new x) p u
