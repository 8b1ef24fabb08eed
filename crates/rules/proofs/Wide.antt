-- The steps of the wide board, both sides of each edge: its columns are six blocks wide, its factor is the double nearest to 0.9995, and its confirmed records are
-- pruned after 25 blocks as on the base board. Computed. Assumes nothing.
use mathlib.Core.Path.{◌≡◌, refl}
use mathlib.Core.List.{[], ◌∷◌, map}
use Rattle.std.specs.Prelude.{Some, None}
use Prim.Native.Nat.{ℕ}
use lib.ListN.{length}
use lib.Ieee.{binary64, to_bits, round}
use Rattle.rules.specs.Board.{Pending, wide}
use Rattle.rules.specs.Counts.{nought, one}
use Rattle.rules.specs.Estimator.{Estimator, outwaited, record_confirmation, advance_height}
use Rattle.rules.specs.Estimate.{column_of}
use Rattle.rules.proofs.Computed.{compute_steps}

-- a pending record of bucket 0, admitted at 100
abbrev admitted : Pending
admitted = record { id = []; bucket = 0; entry = 100; through = 0 }

-- three columns of bucket 0, and a confirmed record of height 100
abbrev small : Estimator
small = record { last = None; pending = admitted ∷ []; recent = record { id = []; height = 100 } ∷ []; confirmed = nought ∷ nought ∷ nought ∷ []; resolved = [] }

-- targets: 6 is the last of column 1, 150 the last of column 25, and above means 25
pub wide_columns : map (column_of wide) (1 ∷ 6 ∷ 7 ∷ 144 ∷ 145 ∷ 149 ∷ 150 ∷ 151 ∷ []) ≡ 1 ∷ 1 ∷ 2 ∷ 24 ∷ 25 ∷ 25 ∷ 25 ∷ 25 ∷ []
unfolding column_of
wide_columns = refl

-- an admission at 100: one column is outwaited at 106, and the last at 250
pub wide_waits : map (λ (h : ℕ). outwaited wide h admitted) (105 ∷ 106 ∷ 249 ∷ 250 ∷ 251 ∷ []) ≡ 0 ∷ 1 ∷ 24 ∷ 25 ∷ 25 ∷ []
wide_waits = refl

-- a wait of 6 blocks fits column 1, one of 7 and of 12 column 2, one of 13 column 3
pub wide_confirms : map (λ (h : ℕ). (record_confirmation wide h [] (Some admitted) small).confirmed) (106 ∷ 107 ∷ 112 ∷ 113 ∷ [])
    ≡ (one ∷ one ∷ one ∷ []) ∷ (nought ∷ one ∷ one ∷ []) ∷ (nought ∷ one ∷ one ∷ []) ∷ (nought ∷ nought ∷ one ∷ []) ∷ []
unfolding compute_steps
wide_confirms = refl

-- a pending record lives until 249, a confirmed one until 125
pub wide_stays : map (λ (h : ℕ). length (advance_height wide h small).pending ∷ length (advance_height wide h small).recent ∷ []) (125 ∷ 126 ∷ 249 ∷ 250 ∷ [])
    ≡ (1 ∷ 1 ∷ []) ∷ (1 ∷ 0 ∷ []) ∷ (1 ∷ 0 ∷ []) ∷ (0 ∷ 0 ∷ []) ∷ []
unfolding compute_steps
wide_stays = refl

-- every count is multiplied by the double nearest to 0.9995
pub wide_factor : to_bits binary64 wide.decay ≡ 0x3fef_fbe7_6c8b_4396
unfolding to_bits round
wide_factor = refl
