-- The search among ids that rise: where it ends, and what its answer tells. Assumes nothing.
use Rattle.std.specs.Prelude.{Ok, Err}
use mathlib.Core.Path.{◌≡◌, refl, ap, ◌∙◌}
use mathlib.Core.List.{List, [], ◌∷◌}
use Prim.Native.Nat.{ℕ, zero, suc, ◌+◌, ◌≤◌, ◌<◌, zero-le, suc-le-suc}
use native.Mathlib.Nat.{not-suc-le-zero, le_of_suc-le-suc}
use native.Mathlib.Omega.{arith}
use lib.ListN.{length, get_or}
use Rattle.rules.specs.Ids.{Id}
use Rattle.ids.specs.Search.{cmp, decide, find_from}
use Rattle.std.specs.declared.cmp.Ordering.{Ordering}
use Rattle.std.specs.declared.cmp.Ordering.TheVariants.{Less, Equal, Greater}
use Rattle.ids.proofs.Ids.{Below, below_cmp, below_turned, cmp_below, cmp_above, cmp_equal, cmp_refl}

pub find_gap : (id : Id) (k : ℕ) (js : List Id) (n : ℕ) → n ≤ length js → ((i : ℕ) → i < n → Below (get_or js i []) id) → (n < length js → Below id (get_or js n []))
    → find_from id k js ≡ Err (k + n)
unfolding find_from
find_gap id k [] n l h g = ap Err (omega arith)
find_gap id k (j ∷ js) zero l h g = rw (below_turned j id (g (suc-le-suc zero-le))) (ap Err (omega arith))
find_gap id k (j ∷ js) (suc n) l h g =
    rw (below_cmp j id (h zero (suc-le-suc zero-le)))
    (find_gap id (suc k) js n (le_of_suc-le-suc l) (λ i q. h (suc i) (suc-le-suc q)) (λ q. g (suc-le-suc q)) ∙ ap Err (omega arith))

pub find_at : (id : Id) (k : ℕ) (js : List Id) (n : ℕ) → n < length js → ((i : ℕ) → i < n → Below (get_or js i []) id) → get_or js n [] ≡ id → find_from id k js ≡ Ok (k + n)
unfolding find_from
find_at id k [] n l h g = absurd (not-suc-le-zero l)
find_at id k (j ∷ js) zero l h g = rw (g, cmp_refl id) (ap Ok (omega arith))
find_at id k (j ∷ js) (suc n) l h g =
    rw (below_cmp j id (h zero (suc-le-suc zero-le)))
    (find_at id (suc k) js n (le_of_suc-le-suc l) (λ i q. h (suc i) (suc-le-suc q)) g ∙ ap Ok (omega arith))

-- ---- what the answer tells

-- n is where the id belongs
pub record Open (id : Id) (js : List Id) (n : ℕ) : Type 0 where
  pub within : n ≤ length js
  pub under : (i : ℕ) → i < n → Below (get_or js i []) id
  pub over : n < length js → Below id (get_or js n [])

-- n is where the id stands
pub record Here (id : Id) (js : List Id) (n : ℕ) : Type 0 where
  pub within : n < length js
  pub is : get_or js n [] ≡ id

pub gap_from : (id : Id) (k : ℕ) (js : List Id) (n : ℕ) → find_from id k js ≡ Err n → (i : ℕ) × ((n ≡ k + i) × Open id js i)
unfolding find_from
gap_from id k [] n e =
    let p : k ≡ n = cc in
    (0, (omega arith, record { within = zero-le; under = λ j q. absurd (not-suc-le-zero q); over = λ q. absurd (not-suc-le-zero q) }))
gap_from id k (j ∷ js) n e = go (cmp j id) refl e (gap_from id (suc k) js n)
  where
    Told : Type 0
    Told = (i : ℕ) × ((n ≡ k + i) × Open id (j ∷ js) i)

    more : Below j id → (i : ℕ) × ((n ≡ suc k + i) × Open id js i) → Told
    more b t = (suc t.0, (omega (arith, t.1.0), record { within = suc-le-suc t.1.1.within; under = before; over = λ q. t.1.1.over (le_of_suc-le-suc q) }))
      where
        before : (i : ℕ) → i < suc t.0 → Below (get_or (j ∷ js) i []) id
        before zero q = b
        before (suc i) q = t.1.1.under i (le_of_suc-le-suc q)

    go : (o : Ordering) → cmp j id ≡ o → decide o (find_from id (suc k) js) (Ok k) (Err k) ≡ Err n → (find_from id (suc k) js ≡ Err n → (i : ℕ) × ((n ≡ suc k + i) × Open id js i)) → Told
    go Less c q f = more (cmp_below j id c) (f q)
    go Equal c q f = let z : ◌≡◌ {A = ℕ} 0 1 = cc in absurd (omega arith)
    go Greater c q f =
        let p : k ≡ n = cc in
        (0, (omega arith, record { within = zero-le; under = λ i q. absurd (not-suc-le-zero q); over = λ _. cmp_above j id c }))

pub at_from : (id : Id) (k : ℕ) (js : List Id) (n : ℕ) → find_from id k js ≡ Ok n → (i : ℕ) × ((n ≡ k + i) × Here id js i)
unfolding find_from
at_from id k [] n e = let z : ◌≡◌ {A = ℕ} 0 1 = cc in absurd (omega arith)
at_from id k (j ∷ js) n e = go (cmp j id) refl e (at_from id (suc k) js n)
  where
    Told : Type 0
    Told = (i : ℕ) × ((n ≡ k + i) × Here id (j ∷ js) i)

    go : (o : Ordering) → cmp j id ≡ o → decide o (find_from id (suc k) js) (Ok k) (Err k) ≡ Ok n → (find_from id (suc k) js ≡ Ok n → (i : ℕ) × ((n ≡ suc k + i) × Here id js i)) → Told
    go Less c q f = let t = f q in (suc t.0, (omega (arith, t.1.0), record { within = suc-le-suc t.1.1.within; is = t.1.1.is }))
    go Equal c q f = let p : k ≡ n = cc in (0, (omega arith, record { within = suc-le-suc zero-le; is = cmp_equal j id c }))
    go Greater c q f = let z : ◌≡◌ {A = ℕ} 0 1 = cc in absurd (omega arith)

pub gap_told : (id : Id) (js : List Id) (n : ℕ) → find_from id 0 js ≡ Err n → Open id js n
gap_told id js n e =
    let t = gap_from id 0 js n e in
    let p : n ≡ t.0 = omega (arith, t.1.0) in
    rw p t.1.1

pub at_told : (id : Id) (js : List Id) (n : ℕ) → find_from id 0 js ≡ Ok n → Here id js n
at_told id js n e =
    let t = at_from id 0 js n e in
    let p : n ≡ t.0 = omega (arith, t.1.0) in
    rw p t.1.1
