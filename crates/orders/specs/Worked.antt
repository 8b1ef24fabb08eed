-- Worked cases of the base board: an entry and a leave of one id do not commute, the edges of the laws, and blocks across a gap. Assumes nothing.
use Rattle.std.specs.Prelude.{ℕ, refl, Bool, not, ◌&&◌, List, [], ◌∷◌, ◌++◌, eqb, replicate, None, Some}
use Rattle.std.proofs.Common.{lit<}
use Rattle.kinds.specs.declared.State.{State}
use Rattle.kinds.specs.Last.{Last}
use Rattle.rules.specs.Ids.{Id, same}
use Rattle.rules.specs.Board.{base}
use Rattle.rules.specs.Counts.{one, no_counts}
use Rattle.rules.specs.Estimator.{Estimator, block_connected}
use Rattle.rules.specs.Memory.{Lent, lent}
use Rattle.rules.proofs.Edge.{same_counts}
use Rattle.orders.specs.Orders.{Call, Entry, entering, leaving, in_turn, Alike}
use Rattle.orders.specs.Gaps.{all_done, then_block, alone}

-- ---- the calls

-- an id of one byte and 31 zeros
abbrev pub id : ℕ → Id
id n = n ∷ replicate 31 0

-- id n enters at a rate and the height 100
abbrev pub entry_at : ℕ → ℕ → Entry
entry_at rate n = record { id = id n; rate = record { 0 = rate }; height = record { 0 = 100 }; id_long = refl; height_small = lit< tt }

-- at the rate 5,000
abbrev pub entry : ℕ → Entry
entry n = entry_at 5000 n

-- id n enters the base board
abbrev pub enters : ℕ → Call
enters n = entering base (entry n)

-- at the highest rate that is below the floor
abbrev pub enters_low : ℕ → Call
enters_low n = entering base (entry_at 999 n)

-- id n leaves the base board
abbrev pub leaves : ℕ → Call
leaves n = leaving base (id n)

-- ---- the memory

-- a state with n pending records
abbrev pub used : ℕ → State
used n = record { last = None; pending = n; recent = 0 }

-- a place with nothing in it
abbrev pub free : List ℕ
free = replicate 44 0

-- one with the record of that entry: bucket 33, height 100, resolved-through 0
abbrev taken : ℕ → List ℕ
taken n = id n ++ (33 ∷ 0 ∷ 0 ∷ 0 ∷ 100 ∷ 0 ∷ 0 ∷ 0 ∷ 0 ∷ 0 ∷ 0 ∷ 0 ∷ [])

-- a table, and three bytes that are too few for a place more
abbrev pub table : List ℕ → List ℕ
table places = places ++ (7 ∷ 7 ∷ 7 ∷ [])

-- ---- the cases

-- So many places are used, of these bytes. A call gets this number, and then a call that one; so many places are used afterwards, of these bytes.
unfoldable pub turns : ℕ → List ℕ → Call → ℕ → Call → ℕ → ℕ → List ℕ → Bool
turns n xs p a q b m ys =
    let o = in_turn p q (used n) xs in
    eqb (p (used n) xs).answer.number a && (eqb o.answer.number b && (eqb o.state.pending m && same o.lent ys))

-- the cases
unfoldable pub worked : List Bool
worked =
    -- An entry and a leave of one id: the entry first, and nothing is left; the leave first, and it is answered Absent and the record stays.
    turns 0 (table free) (enters 7) 0 (leaves 7) 0 0 (table free)
    ∷ turns 0 (table free) (leaves 7) 4 (enters 7) 0 1 (table (taken 7))
    -- Two entries with one free place: the first takes it.
    ∷ turns 0 (table free) (enters 7) 0 (enters 9) 3 1 (table (taken 7))
    ∷ turns 0 (table free) (enters 9) 0 (enters 7) 3 1 (table (taken 9))
    -- With two: the same memory.
    ∷ turns 0 (table (free ++ free)) (enters 7) 0 (enters 9) 0 2 (table (taken 7 ++ taken 9))
    ∷ turns 0 (table (free ++ free)) (enters 9) 0 (enters 7) 0 2 (table (taken 7 ++ taken 9))
    -- An entry and a leave of different ids on a full table: the leave first makes room.
    ∷ turns 1 (table (taken 7)) (enters 9) 3 (leaves 7) 0 0 (table free)
    ∷ turns 1 (table (taken 7)) (leaves 7) 0 (enters 9) 0 1 (table (taken 9))
    -- An id that is pending is not undone: its entry is refused, and the leave takes the older record.
    ∷ turns 1 (table (taken 7 ++ free)) (enters 7) 2 (leaves 7) 0 0 (table (free ++ free))
    -- Two leaves of one id: the second is answered Absent.
    ∷ turns 1 (table (taken 7)) (leaves 7) 0 (leaves 7) 4 0 (table free)
    -- A full table: refused, then Absent, and the memory as it was.
    ∷ turns 1 (table (taken 7)) (enters 9) 3 (leaves 9) 4 1 (table (taken 7))
    -- Below the floor, beside another entry: refused in either order, and takes no place.
    ∷ turns 0 (table free) (enters_low 7) 16 (enters 9) 0 1 (table (taken 9))
    ∷ turns 0 (table free) (enters 9) 0 (enters_low 7) 16 1 (table (taken 9))
    -- Undone like any other: refused, then Absent, on a full table too.
    ∷ turns 0 (table free) (enters_low 7) 16 (leaves 7) 4 0 (table free)
    ∷ turns 1 (table (taken 7)) (enters_low 9) 16 (leaves 9) 4 1 (table (taken 7))
    -- Damaged memory, two places used where there is one: both are refused.
    ∷ turns 2 (table (taken 7)) (leaves 7) 1 (leaves 9) 1 2 (table (taken 7))
    ∷ []

-- "An entry and a leave of one id do not commute": on a table of one free place the two orders do not give the same memory.
unfoldable pub OneIdPromise : Type 0
OneIdPromise = ¬ (Alike (enters 7) (leaves 7) (used 0) (table free))

-- ---- blocks across a gap

-- the first three columns of bucket 0, with a record of it that was entered at 100
abbrev pub small : Last → Estimator
small last = record { last = last; pending = record { id = id 7; bucket = 0; entry = 100; through = 0 } ∷ []; recent = []; confirmed = one ∷ one ∷ one ∷ []; resolved = one ∷ one ∷ one ∷ [] }

-- a block at 103 that lists it leaves the same counts where a block that lists nothing came at h before
unfoldable pub as_alone_after : ℕ → Last → Bool
as_alone_after h last =
    let x = block_connected base (id 7 ∷ []) 103 (block_connected base [] h (small last)) in
    let y = block_connected base (id 7 ∷ []) 103 (small last) in
    same_counts x.confirmed y.confirmed && same_counts x.resolved y.resolved

-- memory with that record, and a confirmed table of one place: in it is id 9, of height 50
abbrev pub no_place : Lent
no_place = lent no_counts no_counts (taken 7) (id 9 ++ (50 ∷ 0 ∷ 0 ∷ 0 ∷ []))

-- the last height is 100, and both tables are full
abbrev pub full : State
full = record { last = Some (record { 0 = 100 }); pending = 1; recent = 1 }

-- the cases
unfoldable pub worked_gaps : List Bool
worked_gaps =
    -- The last height is 100: at 101 and 102, and at 100 and below, the block before changes nothing.
    as_alone_after 101 (Some (record { 0 = 100 }))
    ∷ as_alone_after 102 (Some (record { 0 = 100 }))
    ∷ as_alone_after 100 (Some (record { 0 = 100 }))
    ∷ as_alone_after 99 (Some (record { 0 = 100 }))
    -- At 103 itself it decays before the listed are counted.
    ∷ not (as_alone_after 103 (Some (record { 0 = 100 })))
    -- With no last height it is the first block, and decays.
    ∷ not (as_alone_after 102 None)
    -- A block at 102 alone finds room, since height 101 lets the old record go, and it finds the same after one at 101 that lists nothing. At 101 it is ConfirmedFull.
    ∷ eqb (alone base (id 7) 101 full no_place).answer.number 7
    ∷ eqb (alone base (id 7) 102 full no_place).answer.number 0
    ∷ all_done base (101 ∷ []) full no_place
    ∷ (let o = then_block base (101 ∷ []) (id 7) 102 full no_place in
    eqb o.answer.number 0 && (eqb o.state.pending 0 && (eqb o.state.recent 1 && (same o.lent.pending free && same o.lent.recent (id 7 ++ (102 ∷ 0 ∷ 0 ∷ 0 ∷ []))))))
    ∷ []
