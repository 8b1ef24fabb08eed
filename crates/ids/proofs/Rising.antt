-- Ids that rise strictly. Assumes nothing.
use mathlib.Core.Path.{◌≡◌, refl}
use mathlib.Core.Logic.{⊎_elim}
use mathlib.Core.Bool.{true, ◌&&◌}
use mathlib.Core.List.{List, [], ◌∷◌}
use Prim.Native.Nat.{ℕ, zero, suc, ◌+◌, ◌≤◌, ◌<◌}
use native.Mathlib.Nat.{not-suc-le-zero, le_of_suc-le-suc, eq-or-lt_of_le}
use native.Mathlib.Numerals.{add-one}
use native.Mathlib.Omega.{arith}
use lib.ListN.{length, get_or, drop}
use lib.Seq.{drop-cons}
use Rattle.rules.specs.Ids.{Id, below, rising}
use Rattle.rules.proofs.Records.{and_left, and_right}
use Rattle.std.specs.Ordering.{is_lt}
use Rattle.ids.specs.Search.{cmp}
use Rattle.rules.proofs.Ids.{below_trans}
use Rattle.ids.proofs.Ids.{Below, below_cmp_is}

rising_next : (i j : Id) (js : List Id) → rising (i ∷ (j ∷ js)) ≡ true → Below i j × (rising (j ∷ js) ≡ true)
unfolding rising
rising_next i j js e = (and_left (below i j) (rising (j ∷ js)) e, and_right (below i j) (rising (j ∷ js)) e)

pub rising_tail : (i : Id) (js : List Id) → rising (i ∷ js) ≡ true → rising js ≡ true
unfolding rising
rising_tail i [] e = refl
rising_tail i (j ∷ js) e = (rising_next i j js e).1

pub head_below : (i : Id) (js : List Id) → rising (i ∷ js) ≡ true → (k : ℕ) → k < length js → Below i (get_or js k [])
head_below i [] e k h = absurd (not-suc-le-zero h)
head_below i (j ∷ js) e zero h = (rising_next i j js e).0
head_below i (j ∷ js) e (suc k) h = below_trans i j (get_or js k []) (rising_next i j js e).0 (head_below j js (rising_next i j js e).1 k (le_of_suc-le-suc h))

rising_below : (js : List Id) → rising js ≡ true → (i k : ℕ) → i < k → k < length js → Below (get_or js i []) (get_or js k [])
rising_below [] e i k h l = absurd (not-suc-le-zero l)
rising_below (j ∷ js) e i zero h l = absurd (not-suc-le-zero h)
rising_below (j ∷ js) e zero (suc k) h l = head_below j js e k (le_of_suc-le-suc l)
rising_below (j ∷ js) e (suc i) (suc k) h l = rising_below js (rising_tail j js e) i k (le_of_suc-le-suc h) (le_of_suc-le-suc l)

-- what one id tells of all on one side of it
module _ (js : List Id) (id : Id) (e : rising js ≡ true) (m : ℕ) (l : m < length js) where
  pub below_up : Below (get_or js m []) id → (i : ℕ) → i < m + 1 → Below (get_or js i []) id
  below_up h i k = ⊎_elim (λ p. rw p h) (λ p. below_trans (get_or js i []) (get_or js m []) id (rising_below js e i m p l) h) (eq-or-lt_of_le {n = i} {m = m} (omega arith))

  pub below_down : Below id (get_or js m []) → (i : ℕ) → m ≤ i → i < length js → Below id (get_or js i [])
  below_down h i k k' = ⊎_elim (λ p. rw (← p) h) (λ p. below_trans id (get_or js m []) (get_or js i []) h (rising_below js e m i p k')) (eq-or-lt_of_le k)

  pub below_at : get_or js m [] ≡ id → (i : ℕ) → i < m → Below (get_or js i []) id
  below_at h i k = rw h at (rising_below js e i m k l)

-- a turn of the loop that looks at two neighbours, and its end
pub rising_turn : (js : List Id) (i : ℕ) → i + 1 < length js → rising (drop i js) ≡ is_lt (cmp (get_or js i []) (get_or js (i + 1) [])) && rising (drop (i + 1) js)
unfolding rising
rising_turn js i h =
    let a : i < length js = omega arith in
    let b : suc i < length js = omega arith in
    rw (add-one, drop-cons js i [] a, drop-cons js (suc i) [] b, below_cmp_is)

pub rising_short : (js : List Id) → length js ≤ 1 → rising js ≡ true
unfolding rising
rising_short [] h = refl
rising_short (i ∷ []) h = refl
rising_short (i ∷ (j ∷ js)) h = absurd (not-suc-le-zero (le_of_suc-le-suc h))
