-- Counts stay counts, finite and not below 0, under every step of document 01 on a board whose factor is above 0 and at most 1. Assumes nothing.
use mathlib.Core.Bool.{Bool, true, false, cond}
use mathlib.Core.List.{List, [], ◌∷◌}
use Rattle.std.specs.Prelude.{Option, None, Some}
use Prim.Native.Nat.{ℕ, zero, suc, ◌+◌, ◌-◌, ◌*◌}
use lib.Dec.{leb, ltb}
use Rattle.kinds.specs.Last.{Last}
use Rattle.rules.proofs.All.{All}
use Rattle.rules.specs.Ids.{Id}
use Rattle.rules.specs.Counts.{places_of_counts}
use Rattle.rules.specs.Board.{Board, Pending}
use Rattle.rules.specs.Estimator.{Estimator, fresh, find, holds, tx_left, wait, record_confirmation, advance_height, advances, advance_heights, skip_heights, confirm, confirm_all, finish_block, block_connected}
use Rattle.floats.specs.Factor.{Factor}
use Rattle.floats.proofs.Count.{Counted}
use Rattle.floats.proofs.Steps.{all_nought, all_gain, all_decay, all_expire}

pub record Steady (e : Estimator) : Type 0 where
  pub confirmed : All Counted e.confirmed
  pub resolved : All Counted e.resolved

module _ (k : Board) (d : Factor k.decay) where
  steady_confirmation : (B : ℕ) (i : Id) (f : Option Pending) (e : Estimator) → Steady e → Steady (record_confirmation k B i f e)
  unfolding record_confirmation
  steady_confirmation B i None e s = s
  steady_confirmation B i (Some r) e s = record { confirmed = all_gain r.bucket (λ c. leb (wait B r.entry) (k.width * c)) s.confirmed; resolved = all_gain r.bucket (λ c. ltb r.through c) s.resolved }

  steady_confirm : (B : ℕ) (i : Id) (e : Estimator) → Steady e → Steady (confirm k B i e)
  unfolding confirm tx_left
  steady_confirm B i e s = go (holds i B e.recent)
    where
      go : (t : Bool) → Steady (cond t (tx_left i e) (record_confirmation k B i (find i e.pending) e))
      go true = record { confirmed = s.confirmed; resolved = s.resolved }
      go false = steady_confirmation B i (find i e.pending) e s

  steady_all : (B : ℕ) (ids : List Id) (e : Estimator) → Steady e → Steady (confirm_all k B ids e)
  unfolding confirm_all
  steady_all B [] e s = s
  steady_all B (i ∷ ids) e s = steady_all B ids (confirm k B i e) (steady_confirm B i e s)

  pub steady_advance : (h : ℕ) (e : Estimator) → Steady e → Steady (advance_height k h e)
  unfolding advance_height
  steady_advance h e s = record { confirmed = all_decay d s.confirmed; resolved = all_decay d (all_expire k h e.pending s.resolved) }

  steady_advances : (L n : ℕ) (e : Estimator) → Steady e → Steady (advance_heights k L n e)
  unfolding advance_heights
  steady_advances L zero e s = s
  steady_advances L (suc n) e s = steady_advance (L + suc n) (advance_heights k L n e) (steady_advances L n e s)

  steady_skip : (l : Last) (B : ℕ) (e : Estimator) → Steady e → Steady (skip_heights k l B e)
  unfolding skip_heights
  steady_skip None B e s = s
  steady_skip (Some L) B e s = steady_advances L.0 (B - suc L.0) e s

  steady_finish : (t : Bool) (B : ℕ) (e : Estimator) → Steady e → Steady (finish_block k t B e)
  unfolding finish_block
  steady_finish true B e s = steady_advance B e s
  steady_finish false B e s = s

  pub steady_block : (ids : List Id) (B : ℕ) (e : Estimator) → Steady e → Steady (block_connected k ids B e)
  unfolding block_connected
  steady_block ids B e s =
      let f = skip_heights k e.last B e in
      steady_finish (advances e.last B) B (confirm_all k B ids f) (steady_all B ids f (steady_skip e.last B e s))

pub steady_fresh : Steady fresh
unfolding fresh
steady_fresh = record { confirmed = all_nought places_of_counts; resolved = all_nought places_of_counts }
