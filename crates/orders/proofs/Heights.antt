-- Blocks that list nothing, as document 01's steps: each advances the heights up to its own, so that a block that comes after them skips the others. Assumes nothing.
use mathlib.Core.Path.{◌≡◌, refl, sym, ap, ap₂, ◌∙◌}
use Prim.Native.Nat.{ℕ, zero, suc, ◌+◌, ◌-◌, ◌≤◌, ◌<◌}
use native.Mathlib.Nat.{le_trans, le_of_lt, lt_trans}
use native.Mathlib.Omega.{arith}
use mathlib.Core.Bool.{Bool, true}
use mathlib.Core.List.{List, [], ◌∷◌}
use lib.Dec.{ltb}
use lib.ListN.{length}
use borrow.Author.Tests.{ltb-true, lt-ltb, le-ltb}
use Rattle.kinds.specs.Last.{Last}
use Rattle.std.specs.Prelude.{None, Some}
use Rattle.rules.specs.Ids.{Id}
use Rattle.rules.specs.Board.{Board}
use Rattle.rules.specs.Estimator.{Estimator, advance_height, advances, advance_heights, skip_heights, confirm_all, finish_block, block_connected}
use Rattle.rules.specs.Calls.{held_once_listed}
use Rattle.rules.proofs.Records.{and_left, and_right, and_both}
use Rattle.orders.specs.Gaps.{climbing, last_of, empty_steps, GapSteps}

-- a height as a last height
abbrev pub at : ℕ → Last
at L = Some (record { 0 = L })

-- climbing heights end above the first
pub under : (L : ℕ) (hs : List ℕ) (B : ℕ) → climbing L hs B ≡ true → L < B
unfolding climbing
under L [] B c = ltb-true L B c
under L (h ∷ hs) B c = lt_trans (ltb-true L h (and_left (ltb L h) _ c)) (under h hs B (and_right (ltb L h) _ c))

-- and none of them is below it
pub none_below : (L : ℕ) (hs : List ℕ) (B : ℕ) → climbing L hs B ≡ true → L ≤ last_of L hs
unfolding climbing last_of
none_below L [] B c = omega arith
none_below L (h ∷ hs) B c = le_trans (le_of_lt (ltb-true L h (and_left (ltb L h) _ c))) (none_below h hs B (and_right (ltb L h) _ c))

module _ (k : Board) where
  -- the heights after L, and then those after the last of them
  further : (L m n : ℕ) (e : Estimator) → advance_heights k (L + m) n (advance_heights k L m e) ≡ advance_heights k L (m + n) e
  unfolding advance_heights
  further L m zero e = let z : m + 0 ≡ m = omega arith in rw z
  further L m (suc n) e =
      let p : m + suc n ≡ suc (m + n) = omega arith in
      let q : L + m + suc n ≡ L + suc (m + n) = omega arith in
      rw (p, q) (ap (advance_height k (L + suc (m + n))) (further L m n e))

  -- ---- one that lists nothing

  module _ (e : Estimator) (L : ℕ) (a : e.last ≡ at L) where
    -- it advances the heights up to its own
    empty_above : (h : ℕ) → L < h → block_connected k [] h e ≡ advance_heights k L (h - L) e
    unfolding block_connected finish_block advances skip_heights advance_heights confirm_all
    empty_above h q =
        let n : h - L ≡ suc (h - suc L) = omega arith in
        let m : L + suc (h - suc L) ≡ h = omega arith in
        rw (a, lt-ltb L h q, n, m)

    -- and is the last height
    pub last_above : (h : ℕ) → L < h → (block_connected k [] h e).last ≡ at h
    unfolding block_connected finish_block advances advance_height
    last_above h q = rw (a, lt-ltb L h q)

    -- not above the last height it does nothing
    empty_below : (h : ℕ) → h ≤ L → block_connected k [] h e ≡ e
    unfolding block_connected finish_block advances skip_heights advance_heights confirm_all
    empty_below h q =
        let n : h - suc L ≡ 0 = omega arith in
        rw (a, le-ltb L h q, n)

  -- ---- a block after it

  -- one that lists nothing between the last height and B: the heights that are skipped are the same in the end
  skips_one : (e : Estimator) (L : ℕ) → e.last ≡ at L → (h B : ℕ) → L < h → h < B → let f = block_connected k [] h e in skip_heights k f.last B f ≡ skip_heights k e.last B e
  unfolding skip_heights
  skips_one e L a h B p q =
      let f : Estimator = block_connected k [] h e in
      let m : L + (h - L) ≡ h = omega arith in
      let n : h - L + (B - suc h) ≡ B - suc L = omega arith in
      ap (λ (l : Last). skip_heights k l B f) (last_above e L a h p)
      ∙ ap (advance_heights k h (B - suc h)) (empty_above e L a h p)
      ∙ ap (λ (x : ℕ). advance_heights k x (B - suc h) (advance_heights k L (h - L) e)) (sym m)
      ∙ further L (h - L) (B - suc h) e
      ∙ ap (λ (x : ℕ). advance_heights k L x e) n
      ∙ ap (λ (l : Last). skip_heights k l B e) (sym a)

  -- any number of them
  skips_many : (hs : List ℕ) (e : Estimator) (L : ℕ) → e.last ≡ at L → (B : ℕ) → climbing L hs B ≡ true
      → let f = empty_steps k hs e in (skip_heights k f.last B f ≡ skip_heights k e.last B e) × (advances f.last B ≡ advances e.last B)
  unfolding climbing empty_steps advances
  skips_many [] e L a B c = (refl, refl)
  skips_many (h ∷ hs) e L a B c =
      let p = ltb-true L h (and_left (ltb L h) _ c) in
      let d = and_right (ltb L h) _ c in
      let q = under h hs B d in
      let b = last_above e L a h p in
      let r = skips_many hs (block_connected k [] h e) h b B d in (
        r.0 ∙ skips_one e L a h B p q,
        r.1 ∙ ap (λ (l : Last). advances l B) b ∙ lt-ltb h B q ∙ sym (lt-ltb L B (lt_trans p q)) ∙ ap (λ (l : Last). advances l B) (sym a),
      )

  over_many : (hs : List ℕ) (e : Estimator) (L : ℕ) → e.last ≡ at L → (B : ℕ) (ids : List Id) → climbing L hs B ≡ true → block_connected k ids B (empty_steps k hs e) ≡ block_connected k ids B e
  unfolding block_connected
  over_many hs e L a B ids c =
      let s = skips_many hs e L a B c in
      ap₂ (λ (t : Bool) (x : Estimator). finish_block k t B (confirm_all k B ids x)) s.1 s.0

  -- one of them
  over_one : (e : Estimator) (L : ℕ) → e.last ≡ at L → (h B : ℕ) (ids : List Id) → L < h → h < B → block_connected k ids B (block_connected k [] h e) ≡ block_connected k ids B e
  unfolding climbing empty_steps
  over_one e L a h B ids p q = over_many (h ∷ []) e L a B ids (and_both (lt-ltb L h p) (lt-ltb h B q))

  -- the confirmed records, once the list is in
  room_many : (hs : List ℕ) (e : Estimator) (L : ℕ) → e.last ≡ at L → (B : ℕ) (ids : List Id) → climbing L hs B ≡ true → held_once_listed k ids B (empty_steps k hs e) ≡ held_once_listed k ids B e
  unfolding held_once_listed
  room_many hs e L a B ids c = ap (λ (x : Estimator). length (confirm_all k B ids x).recent) (skips_many hs e L a B c).0

  -- with no last height
  first_empty : (e : Estimator) → e.last ≡ None → (h : ℕ) → block_connected k [] h e ≡ advance_height k h e
  unfolding block_connected finish_block advances skip_heights confirm_all
  first_empty e a h = rw a

  pub gap_steps : (e : Estimator) → GapSteps k e
  gap_steps e = record {
    one = λ L h B ids a p q. over_one e L a h B ids p q;
    many = λ L hs B ids a c. over_many hs e L a B ids c;
    room = λ L hs B ids a c. room_many hs e L a B ids c;
    below = λ L h a p. empty_below e L a h p;
    first = λ h a. first_empty e a h;
  }
