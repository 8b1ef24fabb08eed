-- What settling one pending record leaves, and what settling all that are marked leaves: of the counts, of the confirmed table, and of the marks. Assumes nothing.
use Rattle.std.specs.Prelude.{ℕ, ◌≡◌, cond, List, [], ◌∷◌}
use Rattle.rules.specs.Ids.{Id}
use Rattle.rules.specs.Counts.{Counts, gain}
use Rattle.rules.specs.Board.{Board, Pending, Confirmed}
use Rattle.rules.specs.Estimator.{Estimator, holds}
use Rattle.rules.specs.Memory.{Lent, lay_confirmed}
use Rattle.settles.specs.declared.Held.{Held}
use Rattle.settles.specs.declared.Held.TheVariants.{Exactly, Another, Nothing}
use Rattle.batch.specs.Batch.{gains, in_time, unresolved, is_confirmed, raised, fresh_of, counted}
use Rattle.batch.specs.Picked.{picked}

-- what a look at the confirmed record of i tells
abbrev pub looked : ℕ → Id → List Confirmed → Held
looked B i cs = cond (holds i B cs) Exactly (cond (is_confirmed i cs) Another Nothing)

-- r is settled, over the confirmed records cs
pub record Settled (k : Board) (B : ℕ) (r : Pending) (cs : List Confirmed) (xs ys : Counts) (a : List ℕ) (xs' ys' : Counts) (a' : List ℕ) (mark : ℕ) : Type 0 where
  -- it is counted, unless its confirmed record holds exactly B
  pub confirmed : xs' ≡ cond (holds r.id B cs) xs (gain r.bucket (in_time k B r) xs)
  pub resolved : ys' ≡ cond (holds r.id B cs) ys (gain r.bucket (unresolved r) ys)
  -- its confirmed record, if it has one, holds B
  pub recent : a' ≡ lay_confirmed (raised B (r ∷ []) cs) a
  -- the mark says whether it has one
  pub new : mark ≡ cond (is_confirmed r.id cs) 2 1

-- all pending records of e whose mark is 1 are settled
pub record AllSettled (k : Board) (B : ℕ) (e : Estimator) (l : Lent) (ms : List ℕ) (l' : Lent) (ms' : List ℕ) : Type 0 where
  -- those of them are counted whose confirmed record does not hold exactly B
  pub confirmed : l'.confirmed ≡ gains (in_time k B) (counted B e.recent (picked 1 ms e.pending)) l.confirmed
  pub resolved : l'.resolved ≡ gains unresolved (counted B e.recent (picked 1 ms e.pending)) l.resolved
  -- their confirmed records hold B
  pub recent : l'.recent ≡ lay_confirmed (raised B (picked 1 ms e.pending) e.recent) l.recent
  -- the mark of those that have none is still 1
  pub new : picked 1 ms' e.pending ≡ fresh_of (picked 1 ms e.pending) e.recent
  -- a mark of 0 stays
  pub rest : picked 0 ms' e.pending ≡ picked 0 ms e.pending
