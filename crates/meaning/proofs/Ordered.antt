-- Of each two counts that a log makes the confirmed one is not above the resolved one: at every height no more are counted confirmed than resolved, and neither
-- fewer ones nor the decay of a smaller number give more, as rounded. Assumes nothing.
use mathlib.Core.Bool.{Bool, true, false, ◌&&◌}
use mathlib.Core.List.{List}
use Prim.Native.Nat.{ℕ, zero, suc, ◌≤◌, zero-le}
use native.Mathlib.Nat.{not-suc-le-zero, le_of_suc-le-suc}
use native.Mathlib.Omega.{arith}
use lib.Dec.{T, eqb, lit<}
use lib.Ieee.{Float, binary64, mul, le}
use Rattle.rules.specs.Lists.{bit}
use Rattle.rules.specs.Board.{Board}
use Rattle.floats.specs.Factor.{Factor}
use Rattle.floats.proofs.Count.{factor_unsigned}
use Rattle.floats.proofs.Unsigned.{le_trans, mul_mono}
use Rattle.floats.proofs.Tame.{Tame, nought_tame, one_more_tame, decay_tame, one_more_grows, one_more_mono}
use Rattle.meaning.specs.Runs.{arrival, removal, block, Log, begin, ◌▸◌}
use Rattle.meaning.specs.Fates.{Admission, admissions, Fate, undecided, withdrawn, counted, fate_of, in_resolved, in_confirmed, of_kind, counted_at, counts_in, tally, ones, stored, count_of}
use Rattle.lists.proofs.Counting.{count_le}

-- two numbers of at most n times 2 ^ 53, the first not above the second
pub record Ordered (n : ℕ) (x y : Float) : Type 0 where
  pub confirmed : Tame n x
  pub resolved : Tame n y
  pub order : T (le x y)

-- ---- ones

ones_tame : (n : ℕ) (x : Float) → Tame 1 x → Tame 1 (ones n x)
unfolding ones
ones_tame zero x t = t
ones_tame (suc n) x t = one_more_tame (ones_tame n x t)

ones_mono : (m n : ℕ) (x y : Float) → Ordered 1 x y → m ≤ n → T (le (ones m x) (ones n y))
unfolding ones
ones_mono zero zero x y q h = q.order
ones_mono zero (suc n) x y q h =
    let t : Tame 1 (ones n y) = ones_tame n y q.resolved in
    le_trans q.confirmed.no_sign t.no_sign (one_more_tame t).no_sign (ones_mono zero n x y q zero-le) (one_more_grows t)
ones_mono (suc m) zero x y q h = absurd (not-suc-le-zero h)
ones_mono (suc m) (suc n) x y q h = one_more_mono (ones_tame m x q.confirmed) (ones_tame n y q.resolved) (ones_mono m n x y q (le_of_suc-le-suc h))

-- ---- two counts, the one with no more ones than the other at every height

module _ (k : Board) (d : Factor k.decay) (m n : ℕ → ℕ) (fewer : (h : ℕ) → m h ≤ n h) where
  after_block : (h : ℕ) (x y : Float) → Ordered 1 x y → Ordered 1 (mul binary64 (ones (m h) x) k.decay) (mul binary64 (ones (n h) y) k.decay)
  after_block h x y q =
      let t : Tame 1 (ones (m h) x) = ones_tame (m h) x q.confirmed in
      let u : Tame 1 (ones (n h) y) = ones_tame (n h) y q.resolved in
      record {
        confirmed = decay_tame (lit< tt) d t;
        resolved = decay_tame (lit< tt) d u;
        order = mul_mono t.no_sign u.no_sign (factor_unsigned d) (ones_mono (m h) (n h) x y q (fewer h));
      }

  stored_ordered : (l : Log) → Ordered 1 (stored k m l) (stored k n l)
  unfolding stored le
  stored_ordered begin = record { confirmed = nought_tame 1; resolved = nought_tame 1; order = tt }
  stored_ordered (l ▸ arrival i rate e) = stored_ordered l
  stored_ordered (l ▸ removal i) = stored_ordered l
  stored_ordered (l ▸ block ids h) = after_block h (stored k m l) (stored k n l) (stored_ordered l)

-- ---- confirmed and resolved

and_mono : (a b c : Bool) → bit b ≤ bit c → bit (a && b) ≤ bit (a && c)
and_mono true b c h = h
and_mono false b c h = zero-le

at_most_true : (b : Bool) → bit b ≤ bit true
at_most_true true = omega arith
at_most_true false = omega arith

confirmed_resolved : (h : ℕ) (f : Fate) → bit (counted_at in_confirmed h f) ≤ bit (counted_at in_resolved h f)
unfolding counted_at of_kind
confirmed_resolved h undecided = zero-le
confirmed_resolved h withdrawn = zero-le
confirmed_resolved h (counted g y) = and_mono (eqb g h) y true (at_most_true y)

tally_le : (k : Board) (xs : List Admission) (b c h : ℕ) → tally in_confirmed k xs b c h ≤ tally in_resolved k xs b c h
unfolding tally counts_in
tally_le k xs b c h = count_le (counts_in in_confirmed k b c h) (counts_in in_resolved k b c h) (λ a. and_mono (eqb b a.bucket) _ _ (confirmed_resolved h (fate_of k c a))) xs

pub counts_ordered : (k : Board) → Factor k.decay → (l : Log) (b c : ℕ) → Ordered 1 (count_of in_confirmed k l b c) (count_of in_resolved k l b c)
unfolding count_of
counts_ordered k d l b c = stored_ordered k d (tally in_confirmed k (admissions l) b c) (tally in_resolved k (admissions l) b c) (tally_le k (admissions l) b c) l
