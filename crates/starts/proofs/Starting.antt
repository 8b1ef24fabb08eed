-- A fresh start over plain lists: each answer is the definition's. Assumes nothing.
use mathlib.Core.Path.{◌≡◌, sym}
use mathlib.Core.List.{List, [], ◌++◌}
use Prim.Native.Nat.{ℕ, ◌≤◌, ◌<◌}
use lib.ListN.{length, drop}
use borrow.Author.Tests.{le-leb, lt-leb}
use Rattle.kinds.specs.declared.State.{State}
use Rattle.std.specs.Prelude.{None}
use Rattle.kinds.specs.Answers.{done, damaged}
use Rattle.rules.specs.Counts.{Counts, places_of_counts, no_counts}
use Rattle.rules.specs.Board.{Board, pending_most, confirmed_size}
use Rattle.rules.specs.Records.{capacity, laid}
use Rattle.rules.specs.Estimator.{fresh}
use Rattle.rules.specs.Memory.{Lent, lent, confirmed_capacity, lay_pending, lay_confirmed, state_of, lay}
use Rattle.rules.specs.Calls.{outcome, start_call}

module _ (k : Board) (l : Lent) where
  pub start_few : (length l.confirmed < places_of_counts) → outcome damaged (state_of fresh) l ≡ start_call k l
  unfolding start_call
  start_few h = sym (rw (lt-leb places_of_counts (length l.confirmed) h))

  module _ (h : places_of_counts ≤ length l.confirmed) where
    pub start_fewer : (length l.resolved < places_of_counts) → outcome damaged (state_of fresh) l ≡ start_call k l
    unfolding start_call
    start_fewer g = sym (rw (le-leb places_of_counts (length l.confirmed) h, lt-leb places_of_counts (length l.resolved) g))

    pub start_done : places_of_counts ≤ length l.resolved → (s : State) → s ≡ record { last = None; pending = 0; recent = 0 } → {c r : Counts} {p t : List ℕ} {n : ℕ} → n ≡ k.table.size
        → c ≡ no_counts ++ drop places_of_counts l.confirmed → r ≡ no_counts ++ drop places_of_counts l.resolved
        → p ≡ laid n (capacity n pending_most l.pending) [] l.pending → t ≡ laid confirmed_size (confirmed_capacity l.recent) [] l.recent
        → outcome done s (lent c r p t) ≡ start_call k l
    unfolding start_call state_of fresh lay lay_pending lay_confirmed
    start_done g s e {c} {r} {p} {t} {n} en ec er ep et =
        rw (e, ec, er, ep, et, en) (sym (rw (le-leb places_of_counts (length l.confirmed) h, le-leb places_of_counts (length l.resolved) g)))
