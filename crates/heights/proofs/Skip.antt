-- Heights advanced one after the other: each finds memory ready, since an advance keeps the estimator well-formed and needs no room, and what it leaves is
-- told of the memory before the first. Assumes nothing.
use mathlib.Core.Path.{◌≡◌, sym, ap, ◌∙◌}
use mathlib.Core.List.{◌++◌, map}
use Prim.Native.Nat.{ℕ, suc, ◌+◌, ◌-◌, ◌≤◌, ◌<◌, zero-le}
use native.Mathlib.Numerals.{add-one}
use native.Mathlib.Omega.{arith}
use lib.ListN.{take, drop}
use lib.Ieee.{Float}
use Rattle.kinds.specs.declared.Height.{Height}
use Rattle.kinds.specs.Last.{Last}
use Rattle.std.specs.Prelude.{None, Some}
use Rattle.kinds.specs.declared.State.{State}
use Rattle.kinds.specs.Answers.{done}
use Rattle.rules.specs.Counts.{Counts, places_of_counts}
use Rattle.rules.specs.Board.{Board, Lawful}
use Rattle.rules.specs.Estimator.{Estimator, advance_height, advance_heights, skip_heights}
use Rattle.rules.specs.Memory.{Lent, lent, view}
use Rattle.rules.specs.Calls.{Outcome, outcome, accepted}
use Rattle.rules.proofs.Memory.{Room}
use Rattle.rules.proofs.Well.{Well, well_advances}
use Rattle.rules.proofs.Room.{within_advances}
use Rattle.decay.specs.Decay.{often}
use Rattle.ready.specs.Ready.{Ready}
use Rattle.ready.proofs.Facts.{Long, long_same, long_after}
use Rattle.ready.proofs.Ready.{ready_after, step_after, step_none}
use Rattle.heights.proofs.Bare.{in_two, at_once}

-- i of the n heights after L are advanced
pub record Going (k : Board) (L n : ℕ) (s₀ : State) (m : Lent) (s : State) (l : Lent) (i : ℕ) : Type 0 where
  pub within : i ≤ n
  pub long : Long m l
  pub advanced : outcome done s l ≡ accepted k (advance_heights k L i (view k s₀ m)) m

module _ (k : Board) (law : Lawful k) (L n : ℕ) (s₀ : State) (m : Lent) (ready : Ready k s₀ m) where
  well : (i : ℕ) → Well (advance_heights k L i (view k s₀ m))
  well i = well_advances k L i (view k s₀ m) ready.well

  room : (i : ℕ) → Room k (advance_heights k L i (view k s₀ m)) m
  room i =
      let w = within_advances k L i (view k s₀ m) in
      record { pending = omega (arith, w.pending, ready.room.pending); recent = omega (arith, w.recent, ready.room.recent) }

  pub start : Going k L n s₀ m s₀ m 0
  unfolding advance_heights
  start = record { within = zero-le; long = long_same m; advanced = step_none k law s₀ m ready }

  pub ready_still : {s : State} {l : Lent} {i : ℕ} → Going k L n s₀ m s l i → Ready k s l
  ready_still {s} {l} {i} g = ready_after k law m (advance_heights k L i (view k s₀ m)) (well i) (room i) g.advanced

  pub next : {s t : State} {l l' : Lent} {i : ℕ} → Going k L n s₀ m s l i → i < n → Long l l'
      → outcome done t l' ≡ accepted k (advance_height k (L + (i + 1)) (view k s l)) l → Going k L n s₀ m t l' (i + 1)
  unfolding advance_heights
  next {s} {t} {l} {l'} {i} g h long e =
      record {
        within = omega arith;
        long = long_after g.long long;
        advanced = rw (add-one i) (step_after k law m (advance_heights k L i (view k s₀ m)) (advance_height k (L + suc i)) (well i) (room i) g.advanced (rw (add-one i) at e));
      }

  -- with no record left the heights that are left are advanced at once
  pub rest : {s : State} {l : Lent} {i : ℕ} → Going k L n s₀ m s l i → i < n → s.pending ≡ 0 → s.recent ≡ 0 → (h : Height) (d : Float) (cs rs : Counts) → h.0 ≡ L + n → d ≡ k.decay
      → cs ≡ map (often (n - i) d) (take places_of_counts l.confirmed) ++ drop places_of_counts l.confirmed
      → rs ≡ map (often (n - i) d) (take places_of_counts l.resolved) ++ drop places_of_counts l.resolved
      → outcome done (record { last = Some h; pending = 0; recent = 0 }) (lent cs rs l.pending l.recent) ≡ accepted k (advance_heights k L n (view k s₀ m)) m
  rest {s} {l} {i} g less p q h d cs rs top f c r =
      let e : n - i + i ≡ n = omega arith in
      step_after k law m (advance_heights k L i (view k s₀ m)) (advance_heights k (L + i) (n - i)) (well i) (room i) g.advanced
      (at_once k s l (ready_still g) p q (L + i) (n - i) h d cs rs (omega arith) (omega arith) f c r)
      ∙ ap (λ (x : Estimator). accepted k x m) (sym (in_two k L i (n - i) (view k s₀ m)) ∙ ap (λ (x : ℕ). advance_heights k L x (view k s₀ m)) e)

  pub stop : {s : State} {l : Lent} {i : ℕ} → Going k L n s₀ m s l i → n ≤ i → outcome done s l ≡ accepted k (advance_heights k L n (view k s₀ m)) m
  stop {s} {l} {i} g h = let e : i ≡ n = omega (arith, g.within) in rw e at g.advanced

-- ---- the heights strictly between the last one and B

module _ (k : Board) (law : Lawful k) (s : State) (m : Lent) (B : ℕ) where
  -- what was done is what the last height asks for
  asked : {last : Last} (o : Outcome Lent) → s.last ≡ last → o ≡ accepted k (skip_heights k last B (view k s m)) m → o ≡ accepted k (skip_heights k s.last B (view k s m)) m
  asked o e q = q ∙ ap (λ (x : Last). accepted k (skip_heights k x B (view k s m)) m) (sym e)

  pub no_last : Ready k s m → s.last ≡ None → outcome done s m ≡ accepted k (skip_heights k s.last B (view k s m)) m
  unfolding skip_heights
  no_last r e = asked (outcome done s m) e (step_none k law s m r)

  pub between : {t : State} {l : Lent} {low : Height} (n : ℕ) → s.last ≡ Some low → n ≡ B - suc low.0
      → outcome done t l ≡ accepted k (advance_heights k low.0 n (view k s m)) m → outcome done t l ≡ accepted k (skip_heights k s.last B (view k s m)) m
  unfolding skip_heights
  between {t} {l} n e q p = asked (outcome done t l) e (rw q at p)

  pub none_between : {low : Height} → Ready k s m → s.last ≡ Some low → B ≤ low.0 → outcome done s m ≡ accepted k (skip_heights k s.last B (view k s m)) m
  unfolding advance_heights
  none_between {low} r e h = between 0 e (omega arith) (step_none k law s m r)
