-- What a height adds is that height's resolved tallies, over all buckets and columns: the listed records' columns and the expiring ones, each in one bucket. Assumes nothing.
use mathlib.Core.Path.{◌≡◌, refl, sym, ap, ◌∙◌, subst}
use mathlib.Core.Bool.{Bool, true, false, not, ◌&&◌, ◌||◌, cond}
use mathlib.Core.List.{List, [], ◌∷◌}
use Rattle.std.specs.Prelude.{Option, None, Some}
use Prim.Native.Nat.{ℕ, suc, ◌+◌, ◌<◌}
use native.Mathlib.Omega.{arith}
use borrow.Author.Tests.{ltb-true, lt-ltb}
use lib.Dec.{T, ltb, eqb}
use Rattle.rules.specs.Lists.{bit, count, any}
use Rattle.rules.specs.Ids.{Id}
use Rattle.rules.specs.Ladder.{buckets}
use Rattle.rules.specs.Counts.{columns}
use Rattle.rules.specs.Board.{Board, Pending}
use Rattle.rules.specs.Estimator.{Estimator, find, holds, unresolved, expiring, confirm, confirm_all}
use Rattle.rules.specs.Report.{sum, gained, additions, adds_found, adds_confirm, adds_all, adds_expire}
use Rattle.rules.proofs.All.{All, none as no_more, more, all_map}
use Rattle.rules.proofs.Rates.{bucket_lt}
use Rattle.rules.proofs.Sums.{sum_add, sum_const, sum_ext, sum_below, pick}
use Rattle.lists.proofs.Counting.{count_all, count_ext, count_split, count_and_le, count_false}
use Rattle.meaning.specs.Runs.{arrival, removal, block, Log, begin, ◌▸◌}
use Rattle.meaning.specs.Fates.{lists, pends, later, admissions, in_resolved, tally}
use Rattle.meaning.proofs.Counting.{all_then}
use Rattle.meaning.proofs.Cells.{gains_resolved, gains_expired}
use Rattle.meaning.proofs.Confirming.{is_id, holds_held, find_none, find_some, Quiet, Effect, effect_one, two_gains, effect_all}
use Rattle.meaning.proofs.Living.{and_false}
use Rattle.meaning.proofs.Table.{singles, Climbs, Admitted, Calm, quiet, calm, Holds, table}
use Rattle.meaning.proofs.Counts.{left_by, resolved_due}

-- ---- by columns: of how many records each gains

-- no column gains
none_gain : (f : ℕ → ℕ) → ((c : ℕ) → f c ≡ 0) → sum columns f ≡ 0
none_gain f z = sum_ext columns f (λ c. 0) z ∙ omega (arith, sum_const columns 0)

by_columns : (gains : Pending → ℕ → Bool) (rs : List Pending) → additions gains rs ≡ sum columns (λ c. count (λ r. gains r (suc c)) rs)
unfolding additions gained count
by_columns gains [] = sym (none_gain (λ c. 0) (λ c. refl))
by_columns gains (r ∷ rs) = omega (arith, by_columns gains rs, sum_add columns (λ c. bit (gains r (suc c))) (λ c. count (λ r. gains r (suc c)) rs))

-- the records that pass a test gain
abbrev gaining : (Pending → Bool) → List Pending → ℕ → ℕ
gaining test rs c = count (λ r. test r && unresolved r (suc c)) rs

confirm_adds : (h : ℕ) (i : Id) (s : Estimator) → Quiet h s → adds_confirm h i s ≡ sum columns (gaining (is_id i) s.pending)
unfolding adds_found adds_confirm gained holds
confirm_adds h i s q = go (holds i h s.recent) refl
  where
    absent : count (is_id i) s.pending ≡ 0 → 0 ≡ sum columns (gaining (is_id i) s.pending)
    absent z = sym (none_gain (gaining (is_id i) s.pending) (λ c. omega (arith, count_and_le (λ r. unresolved r (suc c)) (is_id i) s.pending)))

    look : (o : Option Pending) → find i s.pending ≡ o → adds_found o ≡ sum columns (gaining (is_id i) s.pending)
    look None e = absent (find_none i s.pending e)
    look (Some r) e = sym (sum_ext columns (gaining (is_id i) s.pending) (λ c. bit (unresolved r (suc c))) (λ c. find_some i s.pending r e (q.unique i) (λ x. unresolved x (suc c))))

    go : (b : Bool) → holds i h s.recent ≡ b → cond b 0 (adds_found (find i s.pending)) ≡ sum columns (gaining (is_id i) s.pending)
    go true e = absent (q.settled i (subst T (sym e ∙ holds_held i h s.recent) tt))
    go false e = look (find i s.pending) refl

list_adds : (k : Board) (h : ℕ) (ids : List Id) (s : Estimator) → Quiet h s → adds_all k h ids s ≡ sum columns (gaining (λ r. lists ids r.id) s.pending)
unfolding adds_all lists any
list_adds k h [] s q = sym (none_gain (λ c. count (λ r. false) s.pending) (λ c. count_false s.pending))
list_adds k h (i ∷ is) s q =
    let s' = confirm k h i s in
    let a : Effect k h (is_id i) s s' = effect_one k h i s q in
    omega (
      arith,
      confirm_adds h i s q,
      list_adds k h is s' a.quiet,
      sum_add columns (gaining (λ r. lists is r.id) s'.pending) (gaining (is_id i) s.pending),
      sum_ext columns (λ c. gaining (λ r. lists is r.id) s'.pending c + gaining (is_id i) s.pending c) (gaining (λ r. is_id i r || lists is r.id) s.pending)
          (λ c. two_gains (is_id i) (λ r. lists is r.id) s.pending s'.pending a.rest (λ r. unresolved r (suc c))),
    )

-- ---- by buckets: each record is in one

bit_and : (a b : Bool) → bit (a && b) ≡ cond a (bit b) 0
bit_and true b = refl
bit_and false b = refl

-- how many pass a test, bucket by bucket
by_buckets : (p : Pending → Bool) (rs : List Pending) → count (λ r. not (ltb r.bucket buckets)) rs ≡ 0 → sum buckets (λ b. count (λ r. eqb b r.bucket && p r) rs) ≡ count p rs
unfolding count
by_buckets p [] z = omega (arith, sum_const buckets 0)
by_buckets p (r ∷ rs) z = go (ltb r.bucket buckets) refl z (by_buckets p rs)
  where
    go : (t : Bool) → ltb r.bucket buckets ≡ t → bit (not t) + count (λ r. not (ltb r.bucket buckets)) rs ≡ 0
        → (count (λ r. not (ltb r.bucket buckets)) rs ≡ 0 → sum buckets (λ b. count (λ r. eqb b r.bucket && p r) rs) ≡ count p rs)
        → sum buckets (λ b. bit (eqb b r.bucket && p r) + count (λ r. eqb b r.bucket && p r) rs) ≡ bit (p r) + count p rs
    go true e q ih = omega (
      arith,
      ih (omega arith),
      sum_add buckets (λ b. bit (eqb b r.bucket && p r)) (λ b. count (λ r. eqb b r.bucket && p r) rs),
      sum_ext buckets (λ b. bit (eqb b r.bucket && p r)) (λ b. cond (eqb b r.bucket) (bit (p r)) 0) (λ b. bit_and (eqb b r.bucket) (p r)),
      pick buckets r.bucket (bit (p r)) (ltb-true r.bucket buckets e),
    )
    go false e q ih = omega arith

-- every admission is in a bucket
all_in : (l : Log) → All (λ a. a.bucket < buckets) (admissions l)
unfolding admissions
all_in begin = no_more
all_in (l ▸ arrival i rate e) = more (bucket_lt rate) (all_map (later (arrival i rate e)) (λ a q. q) (all_in l))
all_in (l ▸ removal i) = all_map (later (removal i)) (λ a q. q) (all_in l)
all_in (l ▸ block ids h) = all_map (later (block ids h)) (λ a q. q) (all_in l)

and_swap : (a b c : Bool) → a && (b && c) ≡ b && (a && c)
and_swap true b c = refl
and_swap false b c = sym (and_false b)

-- ---- a height

module _ (k : Board) (pos : 0 < k.width) (l : Log) (ids : List Id) (h : ℕ) (u : Climbs (l ▸ block ids h)) (f : Admitted (left_by k) l) where
  s : Estimator
  s = singles k l

  s' : Estimator
  s' = confirm_all k h ids s

  m : Calm l s
  unfolding s
  m = calm k l u.0 f

  held : Holds k l s
  unfolding s
  held = table k pos l u.0 f

  effect : Effect k h (λ r. lists ids r.id) s s'
  unfolding s'
  effect = effect_all k h ids s (quiet l s m h u.1)

  abbrev outside : Pending → Bool
  outside r = not (ltb r.bucket buckets)

  none_outside : count outside s.pending ≡ 0
  none_outside =
      held outside
      ∙ count_all (λ a. pends k a && not (ltb a.bucket buckets)) (λ a. false) (all_then (λ a q. ap (λ (y : Bool). pends k a && not y) (lt-ltb a.bucket buckets q) ∙ and_false (pends k a)) (all_in l))
      ∙ count_false (admissions l)

  none_outside' : count outside s'.pending ≡ 0
  none_outside' = omega (arith, none_outside, effect.rest outside, count_split outside (λ r. lists ids r.id) s.pending)

  abbrev tally_of : ℕ → ℕ → ℕ
  tally_of c b = tally in_resolved k (admissions (l ▸ block ids h)) b (suc c) h

  column : (c : ℕ) → c < columns → sum buckets (tally_of c) ≡ count (λ r. expiring k h r (suc c)) s'.pending + gaining (λ r. lists ids r.id) s.pending c
  column c q =
      let expired : ℕ → ℕ = λ b. count (λ r. gains_expired k h r b (suc c)) s'.pending in
      let listed : ℕ → ℕ = λ b. count (λ r. lists ids r.id && gains_resolved r b (suc c)) s.pending in
      omega (
        arith,
        sum_ext buckets (λ b. expired b + listed b) (tally_of c) (λ b. unfold s s' m held in resolved_due k pos b (suc c) (omega arith) (omega arith) l s ids h u.1 m held),
        sum_add buckets expired listed,
        by_buckets (λ r. expiring k h r (suc c)) s'.pending none_outside',
        by_buckets (λ r. lists ids r.id && unresolved r (suc c)) s.pending none_outside,
        sum_ext buckets listed (λ b. count (λ r. eqb b r.bucket && (lists ids r.id && unresolved r (suc c))) s.pending)
            (λ b. count_ext _ _ (λ r. and_swap (lists ids r.id) (eqb b r.bucket) (unresolved r (suc c))) s.pending),
      )

  pub height_adds : adds_all k h ids (singles k l) + adds_expire k h (confirm_all k h ids (singles k l)).pending ≡ sum columns (λ c. sum buckets (tally_of c))
  unfolding s s' adds_expire
  height_adds = omega (
    arith,
    list_adds k h ids s (quiet l s m h u.1),
    by_columns (expiring k h) s'.pending,
    sum_add columns (λ c. count (λ r. expiring k h r (suc c)) s'.pending) (gaining (λ r. lists ids r.id) s.pending),
    sum_below columns (λ c. sum buckets (tally_of c)) (λ c. count (λ r. expiring k h r (suc c)) s'.pending + gaining (λ r. lists ids r.id) s.pending c) column,
  )
