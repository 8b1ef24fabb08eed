-- Edges that document 02 draws for the wide board, both sides of each, through the public calls: waits of 6 and 7, 25 blocks of pruning, targets up to 7. Here are
-- those that an edit of a definition moves; the crate `edges` has the others. Assumes nothing.
use Prim.Native.Nat.{ℕ}
use mathlib.Core.List.{List, [], ◌∷◌, ◌++◌}
use lib.ListN.{replicate}
use lib.Ieee.{Float}
use Rattle.std.specs.Prelude.{None}
use Rattle.rules.specs.Counts.{columns, nought, one}
use Rattle.rules.specs.Board.{wide}
use Rattle.rules.proofs.Edge.{id, enters_at, leaves, estimates, Edge, says, leaves_tables, leaves_counts, reports}
use Rattle.rules.proofs.Edges.{zeros, pending, confirmed, memory, one_pending, state, at, first_count, decayed}

-- one, n heights later
abbrev pub after : ℕ → Float
after n = decayed wide n one

unfoldable pub wide_edges : List Edge
wide_edges =
    -- entered at 100: a wait of 6 fits column 1, one of 7 only the columns from 2 on; either way every column is resolved
    leaves_counts (state None 1 0) one_pending (id 1) 106 33 (replicate columns (after 1)) (replicate columns (after 1))
    ∷ leaves_counts (state None 1 0) one_pending (id 1) 107 33 (nought ∷ replicate 24 (after 1)) (replicate columns (after 1))
    -- entered at 100, block 112 after 100: two columns are outwaited, at 106 and at 112
    ∷ reports (state (at 100) 1 0) one_pending [] 111 1
    ∷ reports (state (at 100) 1 0) one_pending [] 112 2
    -- a confirmed record of height 101 stays at 126 and goes at 127: after 25 blocks, not after 150
    ∷ leaves_tables (state (at 125) 0 1) (memory (zeros 88) (confirmed 1 101 ++ zeros 36)) [] 126 (zeros 88 ++ (7 ∷ 7 ∷ 7 ∷ [])) (confirmed 1 101 ++ zeros 36 ++ (9 ∷ [])) 0 1
    ∷ leaves_tables (state (at 126) 0 1) (memory (zeros 88) (confirmed 1 101 ++ zeros 36)) [] 127 (zeros 88 ++ (7 ∷ 7 ∷ 7 ∷ [])) (zeros 72 ++ (9 ∷ [])) 0 0
    -- resolved-through counts columns: 25 is the most, and 26 Damaged
    ∷ says (leaves (state None 1 0) (pending 1 141 25) (id 1)) 0 []
    ∷ says (leaves (state None 1 0) (pending 1 141 26) (id 1)) 1 []
    -- the floor is the base board's too: 16 at 999, also of a pending id, and not at 1,000
    ∷ says (enters_at 999 (state None 1 0) (pending 1 33 0 ++ zeros 44) (id 1)) 16 []
    ∷ says (enters_at 999 (state None 0 0) (zeros 44) (id 1)) 16 []
    ∷ says (enters_at 1000 (state None 0 0) (zeros 44) (id 1)) 0 []
    -- a count of column 1: targets 1 to 6 have its rate, 0 none, and 7 is the next column's
    ∷ says (estimates (first_count one) (first_count one) 0) 0 []
    ∷ says (estimates (first_count one) (first_count one) 1) 0 (1000 ∷ [])
    ∷ says (estimates (first_count one) (first_count one) 6) 0 (1000 ∷ [])
    ∷ says (estimates (first_count one) (first_count one) 7) 0 []
    ∷ []
