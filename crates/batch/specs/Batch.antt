-- The listed ids of a block, all at once: what `confirm_all` does one by one, said of whole tables. Assumes nothing.
use Rattle.std.specs.Prelude.{ℕ, ◌*◌, Bool, not, cond, List, [], ◌∷◌, map, leb, ltb}
use Rattle.rules.specs.Lists.{any, keep, insert}
use Rattle.rules.specs.Ids.{Id, same, below}
use Rattle.rules.specs.Counts.{Counts, gain}
use Rattle.rules.specs.Board.{Board, Pending, Confirmed}
use Rattle.rules.specs.Estimator.{Estimator, is_pending, holds, wait}

-- ---- counting

-- each record in turn gains one in the columns of its bucket that pass its test
unfoldable pub gains : (Pending → ℕ → Bool) → List Pending → Counts → Counts
gains test [] xs = xs
gains test (r ∷ rs) xs = gains test rs (gain r.bucket (test r) xs)

-- the columns that a confirmation at B gains one confirmed in
abbrev pub in_time : Board → ℕ → Pending → ℕ → Bool
in_time k B r c = leb (wait B r.entry) (k.width * c)

-- the columns that it gains one resolved in
abbrev pub unresolved : Pending → ℕ → Bool
unresolved r c = ltb r.through c

-- ---- the confirmed records

-- a confirmed record of height B for r
abbrev pub at_height : ℕ → Pending → Confirmed
at_height B r = record { id = r.id; height = B }

-- there is a confirmed record of i
unfoldable pub is_confirmed : Id → List Confirmed → Bool
is_confirmed i cs = any (λ c. same c.id i) cs

-- the height becomes B if it is one of those that are asked for
abbrev pub lifted : ℕ → Bool → Confirmed → Confirmed
lifted B t c = cond t (record { id = c.id; height = B }) c

-- the confirmed record of i, if there is one, gets B
unfoldable pub renewed : ℕ → Id → List Confirmed → List Confirmed
renewed B i cs = map (λ c. lifted B (same i c.id) c) cs

-- the confirmed records of those that go get B
unfoldable pub raised : ℕ → List Pending → List Confirmed → List Confirmed
raised B gone cs = map (λ c. lifted B (is_pending c.id gone) c) cs

-- of those that go, the ones that have no confirmed record
unfoldable pub fresh_of : List Pending → List Confirmed → List Pending
fresh_of gone cs = keep (λ r. not (is_confirmed r.id cs)) gone

-- two tables whose ids rise, as one
module _ {A : Type 0} where
  unfoldable pub merged : (A → Id) → List A → List A → List A
  merged id [] rs = rs
  merged id (n ∷ ns) rs = insert (λ x y. below (id x) (id y)) n (merged id ns rs)

-- ---- all at once

-- the pending records whose id is marked, in table order
unfoldable pub marked : (Id → Bool) → List Pending → List Pending
marked mark rs = keep (λ r. mark r.id) rs

-- and the others
unfoldable pub unmarked : (Id → Bool) → List Pending → List Pending
unmarked mark rs = keep (λ r. not (mark r.id)) rs

-- of those that go, the ones whose confirmed record does not hold exactly B
unfoldable pub counted : ℕ → List Confirmed → List Pending → List Pending
counted B cs gone = keep (λ r. not (holds r.id B cs)) gone

-- The marked pending records go; each is counted, unless its confirmed record holds exactly B; older confirmed records of theirs get B, and those that
-- have none get one.
unfoldable pub batch : Board → ℕ → (Id → Bool) → Estimator → Estimator
batch k B mark s =
    let gone = marked mark s.pending in
    record {
      last = s.last;
      pending = unmarked mark s.pending;
      recent = merged (λ c. c.id) (map (at_height B) (fresh_of gone s.recent)) (raised B gone s.recent);
      confirmed = gains (in_time k B) (counted B s.recent gone) s.confirmed;
      resolved = gains unresolved (counted B s.recent gone) s.resolved;
    }
