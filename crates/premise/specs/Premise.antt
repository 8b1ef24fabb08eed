-- Whether a file goes with a chain, in plain words: the file's last height is at most the chain's and at most 4,096 below it. Only a block above the last height makes
-- anything decay, expire or be pruned, and a block more than 4,096 above it is refused. Assumes nothing.
use Rattle.std.specs.Prelude.{ℕ, ◌-◌, cond, List, [], ◌∷◌, ltb, Option, None, Some}
use Rattle.kinds.specs.declared.Height.{Height}
use Rattle.kinds.specs.Last.{Last}
use Rattle.rules.specs.Calls.{widest_gap}
use Rattle.print.specs.Text.{Text, codes}
use Rattle.print.specs.Numerals.{decimal}

-- a sentence around two numbers, in pieces
unfoldable pub between : Text → ℕ → Text → ℕ → Text → List Text
between one h two n three = one ∷ decimal h ∷ two ∷ decimal n ∷ three ∷ []

-- the last height is above the chain's: what will not happen, and until when
unfoldable pub ahead : ℕ → ℕ → List Text
ahead h n =
    between (codes "premise fails: the last height ") h (codes " is above the chain's ") n
    (codes "\nuntil the chain passes the last height, nothing decays, nothing expires and nothing is pruned\n")

-- it is more than 4,096 below: a block is refused until others have led there
unfoldable pub behind : ℕ → ℕ → List Text
behind h n =
    between (codes "premise fails: the last height ") h (codes " is more than 4096 below the chain's ") n
    (codes "\nthe next block is refused (GapTooWide) until empty blocks at most 4096 apart have led there\n")

-- it is neither
unfoldable pub level : ℕ → ℕ → List Text
level h n = between (codes "premise holds: the last height ") h (codes " is at most the chain's ") n (codes " and at most 4096 below it\n")

-- what is said of a last height h beside the chain's height n
unfoldable pub beside : ℕ → ℕ → List Text
beside h n = cond (ltb n h) (ahead h n) (cond (ltb widest_gap (n - h)) (behind h n) (level h n))

-- there is no last height: the premise holds, whatever the chain's height
unfoldable pub no_last : List Text
no_last = codes "premise holds: there is no last height, and the first block sets it\n" ∷ []

-- what is said of a file's last height, where the chain's height is told
unfoldable pub premise : Option Height → Last → List Text
premise None last = []
premise (Some n) None = no_last
premise (Some n) (Some h) = beside h.0 n.0
