-- More edges of the wide board: height by height, a life of 150 blocks, the gap, room for a list, targets up to 150. Assumes nothing.
use mathlib.Core.List.{List, [], ◌∷◌, ◌++◌}
use lib.ListN.{replicate}
use Rattle.rules.specs.Counts.{Counts, columns, nought, one}
use Rattle.rules.specs.Memory.{Lent}
use Rattle.rules.proofs.Edge.{id, connects, estimates, Edge, says, leaves_tables, leaves_counts, only}
use Rattle.rules.proofs.Edges.{zeros, pending, confirmed, memory, one_pending, state, at, late}
use Rattle.rules.proofs.WideEdges.{after}
use Rattle.edges.proofs.Base.{high}

-- one count, of the last column
abbrev last_column : Counts
last_column = only 0 (replicate 24 nought ++ (one ∷ []))

-- a record entered at 100 that has outwaited 24 columns
abbrev nearly_gone : Lent
nearly_gone = memory (pending 1 33 24 ++ zeros 44) (zeros 72)

unfoldable pub edges : List Edge
edges =
    -- height by height, unlisted: at 105 nothing is resolved, at 106 column 1, which then decays at 107 too
    leaves_counts (state (at 104) 1 0) one_pending [] 105 33 (replicate columns nought) (replicate columns nought)
    ∷ leaves_counts (state (at 104) 1 0) one_pending [] 107 33 (replicate columns nought) (after 2 ∷ replicate 24 nought)
    -- alive at 249; gone at 250, where its last column is resolved
    ∷ leaves_tables (state (at 248) 1 0) nearly_gone [] 249 (pending 1 33 24 ++ zeros 44 ++ (7 ∷ 7 ∷ 7 ∷ [])) (zeros 72 ++ (9 ∷ [])) 1 0
    ∷ leaves_tables (state (at 249) 1 0) nearly_gone [] 250 (zeros 88 ++ (7 ∷ 7 ∷ 7 ∷ [])) (zeros 72 ++ (9 ∷ [])) 0 0
    ∷ leaves_counts (state (at 249) 1 0) nearly_gone [] 250 33 (replicate columns nought) (replicate 24 nought ++ (after 1 ∷ []))
    -- the gap of 4,096 is the base board's
    ∷ says (connects (state (at 100) 1 0) one_pending [] 4196) 0 []
    ∷ says (connects (state (at 100) 1 0) one_pending [] 4197) 6 []
    -- what expires in the skipped heights needs no room: entered at 100 it goes at 250, so before a block at 251 after 248, and not before one at 250
    ∷ says (connects (state (at 248) 1 1) (memory (pending 1 33 24) (high 2)) (id 1) 251) 0 []
    ∷ says (connects (state (at 248) 1 1) (memory (pending 1 33 24) (high 2)) (id 1) 250) 7 []
    ∷ says (connects (state (at 101) 1 1) (memory (pending 1 33 0) (high 2)) (id 1) 126) 7 []
    -- resolved-through 25 goes at the next height, which must be a skipped one
    ∷ says (connects (state (at 100) 1 1) (memory (pending 1 33 25) (high 2)) (id 1) 101) 7 []
    ∷ says (connects (state (at 100) 1 1) (memory (pending 1 33 25) (high 2)) (id 1) 102) 0 []
    -- they make room after 25 blocks, as on the base board, and the block's own height makes none
    ∷ says (connects (state (at 101) 1 1) (memory (late 1 0) (confirmed 2 100)) (id 1) 127) 0 []
    ∷ says (connects (state (at 101) 1 1) (memory (late 1 0) (confirmed 2 100)) (id 1) 126) 7 []
    -- a count of column 25: targets 145 to 150 have its rate, and more means 150
    ∷ says (estimates last_column last_column 0) 0 []
    ∷ says (estimates last_column last_column 144) 0 []
    ∷ says (estimates last_column last_column 145) 0 (1000 ∷ [])
    ∷ says (estimates last_column last_column 149) 0 (1000 ∷ [])
    ∷ says (estimates last_column last_column 150) 0 (1000 ∷ [])
    ∷ says (estimates last_column last_column 151) 0 (1000 ∷ [])
    ∷ says (estimates last_column last_column 4294967295) 0 (1000 ∷ [])
    ∷ []
