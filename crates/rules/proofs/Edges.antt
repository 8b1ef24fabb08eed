-- Edges that document 01 draws and does not mark P: the answers, their order, 4,096, 25 blocks of pruning, 1.0 and 0.85; on memory with junk beyond its
-- capacities. Here are those that an edit of a definition moves; the crate `edges` has the others. Assumes nothing.
use Prim.Native.Nat.{ℕ, zero, suc, ◌-◌, ◌*◌}
use mathlib.Core.List.{List, [], ◌∷◌, ◌++◌}
use lib.ListN.{replicate}
use lib.Ieee.{Float, binary64, mul}
use Rattle.kinds.specs.declared.State.{State}
use Rattle.kinds.specs.Last.{Last}
use Rattle.std.specs.Prelude.{None, Some}
use Rattle.rules.specs.Counts.{Counts, columns, places_of_counts, decimal, nought, one, no_counts}
use Rattle.rules.specs.Board.{Board, base}
use Rattle.rules.specs.Memory.{Lent, lent}
use Rattle.rules.proofs.Edge.{id, enters, enters_at, leaves, connects, estimates, Edge, says, starts, leaves_tables, leaves_counts, reports}

-- ---- memory, with three bytes past the pending capacity and one past the confirmed capacity

abbrev pub zeros : ℕ → List ℕ
zeros n = replicate n 0

-- id n, bucket b, entry height 100, resolved-through t
abbrev pub pending : ℕ → ℕ → ℕ → List ℕ
pending n b t = id n ++ (b ∷ 0 ∷ 0 ∷ 0 ∷ 100 ∷ 0 ∷ 0 ∷ 0 ∷ t ∷ 0 ∷ 0 ∷ 0 ∷ [])

-- id n, height h
abbrev pub confirmed : ℕ → ℕ → List ℕ
confirmed n h = id n ++ (h ∷ 0 ∷ 0 ∷ 0 ∷ [])

abbrev pub memory : List ℕ → List ℕ → Lent
memory p c = lent no_counts no_counts (p ++ (7 ∷ 7 ∷ 7 ∷ [])) (c ++ (9 ∷ []))

-- one pending record of two places, and two places for confirmed records
abbrev pub one_pending : Lent
one_pending = memory (pending 1 33 0 ++ zeros 44) (zeros 72)

abbrev pub state : Last → ℕ → ℕ → State
state last p r = record { last = last; pending = p; recent = r }

abbrev pub at : ℕ → Last
at h = Some (record { 0 = h })

-- the counts all +0.0 but the first, or one of the 3,550 missing
abbrev pub first_count : Float → Counts
first_count x = x ∷ replicate (places_of_counts - 1) nought

abbrev pub one_missing : Counts
one_missing = replicate (places_of_counts - 1) nought

-- the count of target 1 in each of the first three buckets
abbrev pub three : Float → Float → Float → Counts
three x y z = x ∷ replicate (columns - 1) nought ++ (y ∷ replicate (columns - 1) nought) ++ (z ∷ replicate (places_of_counts - 2 * columns - 1) nought)

-- a pending record whose entry height is the greatest
abbrev pub late : ℕ → ℕ → List ℕ
late n t = id n ++ (33 ∷ 0 ∷ 0 ∷ 0 ∷ 255 ∷ 255 ∷ 255 ∷ 255 ∷ t ∷ 0 ∷ 0 ∷ 0 ∷ [])

-- x after n heights of a board, rounded at each
unfoldable pub decayed : Board → ℕ → Float → Float
decayed k zero x = x
decayed k (suc n) x = mul binary64 (decayed k n x) k.decay

-- ---- the table

unfoldable pub edges : List Edge
edges =
    -- a fresh start judges only the lengths of the count slices
    starts (lent no_counts no_counts [] []) 0
    ∷ starts (lent one_missing no_counts [] []) 1
    ∷ starts (lent no_counts one_missing [] []) 1
    -- 1: ids not strictly rising (a second record all zero; an id twice), an unused place not zero, a used number above the capacity, bucket 142, resolved-through 26
    ∷ says (leaves (state None 2 0) (pending 1 33 0 ++ zeros 44) (id 1)) 1 []
    ∷ says (leaves (state None 2 0) (pending 1 33 0 ++ pending 1 33 0) (id 1)) 1 []
    ∷ says (leaves (state None 2 0) (pending 1 33 0 ++ pending 2 33 0) (id 1)) 0 []
    ∷ says (leaves (state None 0 0) (pending 1 33 0) (id 1)) 1 []
    ∷ says (leaves (state None 2 0) (pending 1 33 0) (id 1)) 1 []
    ∷ says (leaves (state None 1 0) (pending 1 141 25) (id 1)) 0 []
    ∷ says (leaves (state None 1 0) (pending 1 142 25) (id 1)) 1 []
    ∷ says (leaves (state None 1 0) (pending 1 141 26) (id 1)) 1 []
    -- enter and leave judge only the pending table: a used number of confirmed records is not theirs
    ∷ says (enters (state None 1 77) (pending 1 33 0 ++ zeros 44) (id 2)) 0 []
    -- 1 before 2; 2 before 3; 3 where used = capacity, at no capacity too
    ∷ says (enters (state None 1 0) (pending 1 142 0) (id 1)) 1 []
    ∷ says (enters (state None 1 0) (pending 1 33 0 ++ (5 ∷ [])) (id 1)) 2 []
    ∷ says (enters (state None 1 0) (pending 1 33 0 ++ (5 ∷ [])) (id 2)) 3 []
    ∷ says (enters (state None 0 0) [] (id 1)) 3 []
    -- 16 after 1 and before 2 and 3: 999 is below the floor, 1,000 is not
    ∷ says (enters_at 999 (state None 1 0) (pending 1 142 0) (id 1)) 1 []
    ∷ says (enters_at 999 (state None 1 0) (pending 1 33 0 ++ (5 ∷ [])) (id 1)) 16 []
    ∷ says (enters_at 0 (state None 0 0) [] (id 1)) 16 []
    ∷ says (enters_at 1000 (state None 1 0) (pending 1 33 0 ++ (5 ∷ [])) (id 1)) 2 []
    ∷ says (enters_at 1000 (state None 0 0) (zeros 44) (id 1)) 0 []
    -- 4
    ∷ says (leaves (state None 1 0) (pending 1 33 0 ++ (5 ∷ [])) (id 2)) 4 []
    -- an id listed three times counts once, beside another too; one that is not pending needs no room
    ∷ says (connects (state None 1 0) (memory (pending 1 33 0) (zeros 36)) (id 1 ++ id 1 ++ id 1) 101) 0 []
    ∷ says (connects (state None 1 0) (memory (pending 1 33 0) []) (id 1 ++ id 1 ++ id 1) 101) 7 []
    ∷ says (connects (state None 2 0) (memory (pending 1 33 0 ++ pending 2 33 0) (zeros 72)) (id 1 ++ id 2 ++ id 1) 101) 0 []
    ∷ says (connects (state None 2 0) (memory (pending 1 33 0 ++ pending 2 33 0) (zeros 36)) (id 1 ++ id 2 ++ id 1) 101) 7 []
    ∷ says (connects (state None 1 1) (memory (pending 1 33 0) (confirmed 2 100)) (id 3 ++ id 2) 101) 0 []
    ∷ says (connects (state None 1 1) (memory (pending 1 33 0) (confirmed 2 100)) (id 3 ++ id 1) 101) 7 []
    -- the skipped heights make room: a record of height 100 stays at 125 and goes at 126; the block's own height makes none
    ∷ says (connects (state (at 101) 1 1) (memory (late 1 0) (confirmed 2 100)) (id 1) 127) 0 []
    ∷ says (connects (state (at 101) 1 1) (memory (late 1 0) (confirmed 2 100)) (id 1) 126) 7 []
    ∷ says (connects (state (at 125) 1 1) (memory (late 1 0) (confirmed 2 100)) (id 1) 126) 7 []
    ∷ says (connects (state (at 125) 1 1) (memory (late 1 0) (confirmed 2 100)) (id 1) 127) 0 []
    -- gap 4,096 runs; 4,097 is refused; no last height is no gap
    ∷ says (connects (state (at 100) 1 0) one_pending [] 4196) 0 []
    ∷ says (connects (state (at 100) 1 0) one_pending [] 4197) 6 []
    ∷ says (connects (state None 1 0) one_pending [] 4197) 0 []
    -- a confirmed record of height 101 stays at 126 and goes at 127; one above the height stays
    ∷ leaves_tables (state (at 125) 0 1) (memory (zeros 88) (confirmed 1 101 ++ zeros 36)) [] 126 (zeros 88 ++ (7 ∷ 7 ∷ 7 ∷ [])) (confirmed 1 101 ++ zeros 36 ++ (9 ∷ [])) 0 1
    ∷ leaves_tables (state (at 126) 0 1) (memory (zeros 88) (confirmed 1 101 ++ zeros 36)) [] 127 (zeros 88 ++ (7 ∷ 7 ∷ 7 ∷ [])) (zeros 72 ++ (9 ∷ [])) 0 0
    ∷ leaves_tables (state (at 5) 0 1) (memory (zeros 88) (confirmed 1 200 ++ zeros 36)) [] 6 (zeros 88 ++ (7 ∷ 7 ∷ 7 ∷ [])) (confirmed 1 200 ++ zeros 36 ++ (9 ∷ [])) 0 1
    -- an entry height above the block's: nothing expires, a wait of 1 is counted; resolved-through 25 goes at the next advance
    ∷ leaves_tables (state (at 9) 1 0) (memory (late 1 5 ++ zeros 44) (zeros 72)) [] 10 (late 1 5 ++ zeros 44 ++ (7 ∷ 7 ∷ 7 ∷ [])) (zeros 72 ++ (9 ∷ [])) 1 0
    ∷ leaves_tables (state (at 9) 1 0) (memory (late 1 25 ++ zeros 44) (zeros 72)) [] 10 (zeros 88 ++ (7 ∷ 7 ∷ 7 ∷ [])) (zeros 72 ++ (9 ∷ [])) 0 0
    ∷ leaves_counts (state (at 9) 1 0) (memory (late 1 5 ++ zeros 44) (zeros 72)) (id 1) 10 33 (replicate columns (decimal 998 1000)) (replicate 5 nought ++ replicate 20 (decimal 998 1000))
    -- skipped heights one by one: entered at 100, last height 100, block 103, unlisted: target 1 decays three times, 2 twice, 3 once
    ∷ leaves_counts (state (at 100) 1 0) one_pending [] 103 33 (replicate columns nought) (decayed base 3 one ∷ decayed base 2 one ∷ decayed base 1 one ∷ replicate 22 nought)
    -- what a block reports: entered at 100, last height 100, block 103: 3 expire, or 2 and the 23 left if it is listed, here twice; refused, none; if the
    -- confirmed record holds exactly the height, none; at 103 after 105 the 20 left, or none if it is not listed
    ∷ reports (state (at 100) 1 0) one_pending [] 103 3
    ∷ reports (state (at 100) 1 0) one_pending (id 1 ++ id 1) 103 25
    ∷ reports (state (at 100) 1 0) one_pending (0 ∷ id 1) 103 0
    ∷ reports (state (at 101) 1 1) (memory (pending 1 33 5 ++ zeros 44) (confirmed 1 101 ++ zeros 36)) (id 1) 101 0
    ∷ reports (state (at 105) 1 0) (memory (pending 1 33 5 ++ zeros 44) (zeros 72)) (id 1) 103 20
    ∷ reports (state (at 105) 1 0) (memory (pending 1 33 5 ++ zeros 44) (zeros 72)) [] 103 0
    -- target 0 gives none, also of counts that give target 1 a rate
    ∷ says (estimates (first_count one) (first_count one) 0) 0 []
    -- the resolved sum at least 1.0: one unit of the last place below it is none
    ∷ says (estimates (first_count one) (first_count one) 1) 0 (1000 ∷ [])
    ∷ says (estimates (first_count one) (first_count (decimal 9999999999999999 10000000000000000)) 1) 0 []
    -- 17 of 20 is 0.85, and passes; a unit of the last place less does not
    ∷ says (estimates (first_count (decimal 17 1)) (first_count (decimal 20 1)) 1) 0 (1000 ∷ [])
    ∷ says (estimates (first_count (decimal 16999999999999996 1000000000000000)) (first_count (decimal 20 1)) 1) 0 []
    -- a lower bucket may pass again: bucket 2 passes, bucket 1 fails, bucket 0 passes
    ∷ says (estimates (three (decimal 100 1) nought one) (three (decimal 100 1) one one) 1) 0 (1000 ∷ [])
    ∷ []
