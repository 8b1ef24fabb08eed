-- A run of the wide board's calls on memory that was lent dirty, computed: a wait of 6 and one of 7, and one that waits on over skipped heights. The promise is applied to it:
-- what it promises of these counts is what the calls leave. Assumes nothing.
use Prim.Native.Nat.{ℕ, ◌≤◌, ◌<◌}
use mathlib.Core.Path.{◌≡◌, refl, sym, subst}
use mathlib.Core.Bool.{Bool, ◌&&◌}
use mathlib.Core.List.{List, [], ◌∷◌, ◌++◌}
use lib.Dec.{T, lit<}
use lib.ListN.{replicate}
use lib.Ieee.{Float, nan, binary64, add}
use Rattle.kinds.specs.declared.Horizon.{Horizon}
use Rattle.rules.specs.Ids.{same}
use Rattle.rules.specs.Ladder.{buckets}
use Rattle.rules.specs.Counts.{columns, nought, one, cell}
use Rattle.rules.specs.Bytes.{bytes}
use Rattle.rules.specs.Board.{wide}
use Rattle.rules.specs.Memory.{Lent, lent}
use Rattle.rules.proofs.Edge.{id, same_counts}
use Rattle.rules.proofs.Edges.{decayed}
use Rattle.meaning.specs.Runs.{arrival, block, Log, begin, ◌▸◌, Rising, last_of, Above, singly, Call, Typed, AllTyped, Held, calls}
use Rattle.meaning.specs.Fates.{Kind, in_resolved, in_confirmed, count_of, Meant, Promise}
use Rattle.meaning.proofs.Boards.{meaning}
use Rattle.meaning.proofs.Computed.{compute_runs, compute_logs}
use Rattle.witness.proofs.Dirty.{enters, connects}
use Rattle.witness.proofs.Eventful.{made}

-- counts that are no numbers, junk in both tables, room for three pending and two confirmed records
abbrev dirty : Lent
dirty = lent (replicate 3550 nan) (replicate 3550 nan) (replicate 132 7) (replicate 72 9)

-- the first is listed after 6 blocks, the second after 7; the third waits on
abbrev asked : List Call
asked =
    enters 1 5000 100
    ∷ enters 2 5000 100
    ∷ enters 3 1000 100
    ∷ connects (id 1) 106
    ∷ connects (id 2) 107
    ∷ connects [] 112
    ∷ []

abbrev there : Held
there = calls wide dirty asked

abbrev taken : Log
taken =
    begin
    ▸ arrival (id 1) 5000 100
    ▸ arrival (id 2) 5000 100
    ▸ arrival (id 3) 1000 100
    ▸ block (id 1 ∷ []) 106
    ▸ block (id 2 ∷ []) 107
    ▸ block [] 112

-- ---- what is stored in the end, told by hand

-- x, n heights later
abbrev fade : ℕ → Float → Float
fade = decayed wide

-- the first, at 106, and the second, at 107
unfoldable pub both : Float
both = fade 6 (add binary64 (fade 1 one) one)

-- Bucket 33, confirmed: the first for all columns, and the second, after a wait of 7, for 2 and above.
unfoldable pub confirmed_33 : List Float
confirmed_33 = fade 7 one ∷ replicate 24 both

-- resolved: both for all; for column 1 the second already at 106, when it had outwaited it
unfoldable pub resolved_33 : List Float
resolved_33 = fade 7 (add binary64 one one) ∷ replicate 24 both

-- Bucket 0, resolved: the third, for column 1 at 106 and for column 2 at 112.
unfoldable pub resolved_0 : List Float
resolved_0 = fade 7 one ∷ fade 1 one ∷ replicate 23 nought

-- counts in the buckets 0 and 33, and no other
unfoldable pub rows : List Float → List Float → List Float
rows low high = low ++ replicate 800 nought ++ high ++ replicate 2700 nought

-- the lent memory: the third has outwaited two columns, and both confirmed records are there
unfoldable pub left_so : Lent → Bool
left_so m =
    same_counts m.confirmed (rows (replicate 25 nought) confirmed_33)
    && (same_counts m.resolved (rows resolved_0 resolved_33)
    && (same m.pending (id 3 ++ bytes 4 0 ++ bytes 4 100 ++ bytes 4 2 ++ replicate 88 0)
    && same m.recent (id 1 ++ bytes 4 106 ++ id 2 ++ bytes 4 107)))

pub record Led (x : Held) : Type 0 where
  pub log_is : x.log ≡ taken
  pub memory_is : T (left_so x.memory)

pub led : Led there
unfolding compute_runs left_so confirmed_33 resolved_33 resolved_0 rows both decayed
led = record { log_is = refl; memory_is = tt }

-- ---- the promise of it

typed : AllTyped asked
unfolding AllTyped Typed
typed = ((refl, lit< tt), ((refl, lit< tt), ((refl, lit< tt), (lit< tt, (lit< tt, (lit< tt, tt))))))

rises : Rising taken
unfolding Rising last_of Above
rises = (((tt, tt), lit< tt), lit< tt)

pub spoken_of : Meant wide (singly taken) there
unfolding compute_runs Promise
spoken_of =
    subst (λ (l : Log). Meant wide (singly l) there) led.log_is
    (meaning Horizon.Wide dirty refl asked typed (subst Rising (sym led.log_is) rises))

-- ---- and so of its counts

-- a count, as it is stored in the end
abbrev stored_count : Kind → ℕ → ℕ → Float
stored_count in_confirmed b c = cell there.memory.confirmed b c
stored_count in_resolved b c = cell there.memory.resolved b c

-- the promise gives each of them from the log
pub promised : (which : Kind) (b c : ℕ) → b < buckets → 1 ≤ c → c ≤ columns → stored_count which b c ≡ count_of which wide (singly taken) b c
promised in_confirmed b c h low high = spoken_of.confirmed_is b c h low high
promised in_resolved b c h low high = spoken_of.resolved_is b c h low high

-- those that the log makes are those that were told by hand, and that the calls have left
pub worked : T (same_counts (made wide taken in_confirmed 33 1 25) confirmed_33 && (same_counts (made wide taken in_resolved 33 1 25) resolved_33 && same_counts (made wide taken in_resolved 0 1 25) resolved_0))
unfolding compute_logs made confirmed_33 resolved_33 resolved_0 both decayed
worked = tt
