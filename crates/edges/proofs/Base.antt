-- More edges of the base board: what a block judges, in which order it refuses, room for its list, and what it leaves. Assumes nothing.
use Prim.Native.Nat.{ℕ}
use mathlib.Core.List.{List, [], ◌∷◌, ◌++◌}
use lib.IntN.{pos}
use lib.ListN.{replicate}
use lib.Ieee.{Float, nan, inf, fin}
use mathlib.Core.Bool.{true}
use Rattle.std.specs.Prelude.{None}
use Rattle.rules.specs.Counts.{columns, decimal, nought, one, no_counts}
use Rattle.rules.specs.Board.{base}
use Rattle.rules.specs.Memory.{lent}
use Rattle.rules.proofs.Edge.{id, connects, estimates, Edge, says, leaves_tables, leaves_counts, leaves_beyond}
use Rattle.rules.proofs.Edges.{zeros, pending, confirmed, memory, one_pending, state, at, first_count, one_missing, late, decayed}

-- a number that is no count
abbrev minus_one : Float
minus_one = fin true 1 (pos 0)

-- a confirmed record whose height is the greatest
abbrev pub high : ℕ → List ℕ
high n = id n ++ (255 ∷ 255 ∷ 255 ∷ 255 ∷ [])

unfoldable pub edges : List Edge
edges =
    -- block judges all: each count, each table
    says (connects (state None 0 0) (lent (first_count minus_one) no_counts [] []) [] 101) 1 []
    ∷ says (connects (state None 0 0) (lent no_counts (first_count (inf true)) [] []) [] 101) 1 []
    ∷ says (connects (state None 0 0) (lent no_counts (first_count nan) [] []) [] 101) 1 []
    ∷ says (connects (state None 0 0) (lent (first_count (fin true 0 (pos 0))) no_counts [] []) [] 101) 0 []
    ∷ says (connects (state None 1 0) (memory (pending 1 142 0) []) [] 101) 1 []
    ∷ says (connects (state None 0 1) (memory [] (confirmed 1 5)) [] 101) 0 []
    ∷ says (connects (state None 0 2) (memory [] (confirmed 1 5)) [] 101) 1 []
    -- the confirmed table as the pending one: an id twice, ids that fall, an unused place not zero
    ∷ says (connects (state None 0 2) (memory [] (confirmed 1 5 ++ confirmed 1 5)) [] 101) 1 []
    ∷ says (connects (state None 0 2) (memory [] (confirmed 2 5 ++ confirmed 1 5)) [] 101) 1 []
    ∷ says (connects (state None 0 1) (memory [] (confirmed 1 5 ++ confirmed 2 5)) [] 101) 1 []
    -- 5 before 6; 6 before 7; 7 where more confirmed records would be held than there are places
    ∷ says (connects (state None 1 0) one_pending (0 ∷ id 1) 101) 5 []
    ∷ says (connects (state (at 100) 1 0) one_pending (0 ∷ id 1) 9999) 5 []
    ∷ says (connects (state (at 100) 1 1) (memory (late 1 0) (confirmed 2 255)) (0 ∷ id 1) 101) 5 []
    ∷ says (connects (state (at 100) 1 1) (memory (late 1 0) (high 2)) (id 1) 4197) 6 []
    ∷ says (connects (state (at 100) 1 1) (memory (late 1 0) (high 2)) (id 1) 4196) 7 []
    ∷ says (connects (state (at 100) 1 1) (memory (late 1 0) (high 2 ++ zeros 36)) (id 1) 4196) 0 []
    -- one that still has a record after the skipped heights needs none, whether of another height or of the block's own; with a record of another id there is no room
    ∷ says (connects (state (at 100) 1 1) (memory (pending 1 33 0) (confirmed 1 99)) (id 1) 103) 0 []
    ∷ says (connects (state (at 100) 1 1) (memory (pending 1 33 0) (confirmed 1 103)) (id 1) 103) 0 []
    ∷ says (connects (state (at 100) 1 1) (memory (pending 1 33 0) (confirmed 2 99)) (id 1) 103) 7 []
    -- but one whose record they prune needs a place again: of ids 1 and 3, and the record of 2, that is the third
    ∷ says (connects (state (at 101) 2 2) (memory (late 1 0 ++ late 3 0) (confirmed 1 100 ++ confirmed 2 101)) (id 1 ++ id 3) 127) 7 []
    ∷ says (connects (state (at 101) 2 2) (memory (late 1 0 ++ late 3 0) (confirmed 1 100 ++ confirmed 2 101 ++ zeros 36)) (id 1 ++ id 3) 127) 0 []
    -- without skipped heights nothing is pruned: at the next height, at the first block, at one that repeats the last height or falls
    ∷ says (connects (state (at 200) 1 1) (memory (late 1 0) (confirmed 2 100)) (id 1) 201) 7 []
    ∷ says (connects (state (at 200) 1 1) (memory (late 1 0) (confirmed 2 100)) (id 1) 202) 0 []
    ∷ says (connects (state None 1 1) (memory (late 1 0) (confirmed 2 100)) (id 1) 202) 7 []
    ∷ says (connects (state (at 200) 1 1) (memory (late 1 0) (confirmed 2 100)) (id 1) 200) 7 []
    ∷ says (connects (state (at 200) 1 1) (memory (late 1 0) (confirmed 2 100)) (id 1) 150) 7 []
    -- one that expires in them needs no room: entered at 100 it goes at 125, so before a block at 126 after 101, and not before one at 125
    ∷ says (connects (state (at 101) 1 1) (memory (pending 1 33 1) (confirmed 2 200)) (id 1) 126) 0 []
    ∷ says (connects (state (at 101) 1 1) (memory (pending 1 33 1) (confirmed 2 200)) (id 1) 125) 7 []
    ∷ says (connects (state (at 124) 1 1) (memory (pending 1 33 24) (confirmed 2 200)) (id 1) 125) 7 []
    -- resolved-through 25 goes at the next height, which must be a skipped one
    ∷ says (connects (state (at 100) 1 1) (memory (pending 1 33 25) (confirmed 2 200)) (id 1) 101) 7 []
    ∷ says (connects (state (at 100) 1 1) (memory (pending 1 33 25) (confirmed 2 200)) (id 1) 102) 0 []
    ∷ says (connects (state None 1 1) (memory (pending 1 33 25) (confirmed 2 200)) (id 1) 102) 7 []
    ∷ leaves_tables (state (at 100) 1 1) (memory (pending 1 33 25) (confirmed 2 200)) (id 1) 102 (zeros 44 ++ (7 ∷ 7 ∷ 7 ∷ [])) (confirmed 2 200 ++ (9 ∷ [])) 0 1
    -- exactly B: the pending record goes uncounted, no decay; bytes beyond the capacities stay
    ∷ leaves_tables (state (at 101) 1 1) (memory (pending 1 33 0 ++ zeros 44) (confirmed 1 101 ++ zeros 36)) (id 1) 101 (zeros 88 ++ (7 ∷ 7 ∷ 7 ∷ [])) (confirmed 1 101 ++ zeros 36 ++ (9 ∷ [])) 0 1
    ∷ leaves_counts (state (at 101) 1 1) (memory (pending 1 33 0 ++ zeros 44) (confirmed 1 101 ++ zeros 36)) (id 1) 101 33 (replicate columns nought) (replicate columns nought)
    -- another confirmed height: counted, and the height becomes B
    ∷ leaves_tables (state (at 101) 1 1) (memory (pending 1 33 0 ++ zeros 44) (confirmed 1 100 ++ zeros 36)) (id 1) 101 (zeros 88 ++ (7 ∷ 7 ∷ 7 ∷ [])) (confirmed 1 101 ++ zeros 36 ++ (9 ∷ [])) 0 1
    -- 3.0 through those heights is rounded three times: one multiplication by a power gives another number
    ∷ leaves_counts (state (at 100) 0 0) (lent (first_count (decimal 3 1)) no_counts [] []) [] 103 0 (decayed base 3 (decimal 3 1) ∷ replicate 24 nought) (replicate columns nought)
    -- what is lent past the 3,550 counts is neither judged nor changed
    ∷ leaves_beyond (state (at 100) 0 0) (lent (no_counts ++ (minus_one ∷ [])) (no_counts ++ (one ∷ [])) [] []) [] 101 (minus_one ∷ []) (one ∷ [])
    ∷ says (estimates (first_count one ++ (nan ∷ [])) (first_count one ++ (minus_one ∷ [])) 1) 0 (1000 ∷ [])
    -- estimate judges only the counts, at target 0 too
    ∷ says (estimates one_missing no_counts 0) 1 []
    ∷ says (estimates no_counts (first_count (inf true)) 1) 1 []
    ∷ []
