-- Where no record is left of either kind a height only decays the counts, so that many heights can be advanced at once. Assumes nothing.
use mathlib.Core.Path.{◌≡◌, refl, sym, ap, ap₂, ◌∙◌}
use mathlib.Core.List.{[], ◌++◌, map}
use Prim.Native.Nat.{ℕ, zero, suc, ◌+◌, ◌<◌}
use native.Mathlib.Omega.{arith}
use lib.ListN.{take, drop}
use lib.Ieee.{Float}
use Rattle.kinds.specs.declared.Height.{Height}
use Rattle.kinds.specs.Last.{Last}
use Rattle.std.specs.Prelude.{Some}
use Rattle.kinds.specs.declared.State.{State}
use Rattle.kinds.specs.Answers.{done}
use Rattle.rules.specs.Lists.{keep}
use Rattle.rules.specs.Counts.{Counts, places_of_counts, apply_decay}
use Rattle.rules.specs.Records.{records}
use Rattle.rules.specs.Board.{Board}
use Rattle.rules.specs.Estimator.{Estimator, expire_targets, advance_height, advance_heights}
use Rattle.rules.specs.Memory.{Lent, lent, lay_pending, lay_confirmed, pending_records, confirmed_records, view, state_of, lay}
use Rattle.rules.specs.Calls.{outcome, accepted}
use Rattle.decay.specs.Decay.{often}
use Rattle.decay.proofs.Often.{once_more}
use Rattle.ready.specs.Ready.{Ready}

-- ---- heights

-- heights in two goes
pub in_two : (k : Board) (L i j : ℕ) (e : Estimator) → advance_heights k L (j + i) e ≡ advance_heights k (L + i) j (advance_heights k L i e)
unfolding advance_heights
in_two k L i zero e = let n : 0 + i ≡ i = omega arith in ap (λ (m : ℕ). advance_heights k L m e) n
in_two k L i (suc j) e =
    let n : suc j + i ≡ suc (j + i) = omega arith in
    ap (λ (m : ℕ). advance_heights k L m e) n ∙ ap₂ (advance_height k) (omega arith) (in_two k L i j e)

-- an estimator without records
abbrev bare : Last → Counts → Counts → Estimator
bare last xs ys = record { last = last; pending = []; recent = []; confirmed = xs; resolved = ys }

-- what heights make of it
bare_advanced : (k : Board) (L n : ℕ) (last : Last) (xs ys : Counts)
    → advance_heights k L (suc n) (bare last xs ys) ≡ bare (Some (record { 0 = L + suc n })) (map (often (suc n) k.decay) xs) (map (often (suc n) k.decay) ys)
unfolding advance_heights advance_height expire_targets keep apply_decay often
bare_advanced k L zero last xs ys = refl
bare_advanced k L (suc n) last xs ys =
    ap (advance_height k (L + suc (suc n))) (bare_advanced k L n last xs ys)
    ∙ ap₂ (bare (Some (record { 0 = L + suc (suc n) }))) (once_more (suc n) k.decay xs) (once_more (suc n) k.decay ys)

module _ (k : Board) (s : State) (l : Lent) (ready : Ready k s l) (no-pending : s.pending ≡ 0) (no-recent : s.recent ≡ 0) where
  seen_bare : view k s l ≡ bare s.last (take places_of_counts l.confirmed) (take places_of_counts l.resolved)
  unfolding view pending_records confirmed_records records
  seen_bare = rw (no-pending, no-recent) refl

  -- its tables are their own
  own : lay k (bare s.last (take places_of_counts l.confirmed) (take places_of_counts l.resolved)) l ≡ l
  own = ap (λ (e : Estimator). lay k e l) (sym seen_bare) ∙ ready.own

  own_pending : lay_pending k [] l.pending ≡ l.pending
  unfolding lay
  own_pending = ap (λ (m : Lent). m.pending) own

  own_recent : lay_confirmed [] l.recent ≡ l.recent
  unfolding lay
  own_recent = ap (λ (m : Lent). m.recent) own

  -- the counts as they are left, and the tables as they were
  pub at_once : (L n : ℕ) (h : Height) (d : Float) (cs rs : Counts) → 0 < n → h.0 ≡ L + n → d ≡ k.decay
      → cs ≡ map (often n d) (take places_of_counts l.confirmed) ++ drop places_of_counts l.confirmed
      → rs ≡ map (often n d) (take places_of_counts l.resolved) ++ drop places_of_counts l.resolved
      → outcome done (record { last = Some h; pending = 0; recent = 0 }) (lent cs rs l.pending l.recent) ≡ accepted k (advance_heights k L n (view k s l)) l
  unfolding state_of lay
  at_once L zero h d cs rs z e f c r = absurd (omega (arith, z))
  at_once L (suc n) h d cs rs z e f c r = rw (seen_bare, bare_advanced k L n, own_pending, own_recent, c, r, f, ← e) refl
