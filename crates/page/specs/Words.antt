-- The words of the scripts' page, in ASCII codes. Assumes nothing.
use Rattle.std.specs.Prelude.{ℕ, List, [], ◌∷◌}

-- text, as ASCII codes
abbrev pub Text : Type 0
Text = List ℕ

-- ---- the first words of lines

-- `board`
abbrev pub board : Text
board = 98 ∷ 111 ∷ 97 ∷ 114 ∷ 100 ∷ []

-- `lend`
abbrev pub lend : Text
lend = 108 ∷ 101 ∷ 110 ∷ 100 ∷ []

-- `byte`
abbrev pub byte : Text
byte = 98 ∷ 121 ∷ 116 ∷ 101 ∷ []

-- `count`
abbrev pub count : Text
count = 99 ∷ 111 ∷ 117 ∷ 110 ∷ 116 ∷ []

-- `state`
abbrev pub state : Text
state = 115 ∷ 116 ∷ 97 ∷ 116 ∷ 101 ∷ []

-- `start`
abbrev pub start : Text
start = 115 ∷ 116 ∷ 97 ∷ 114 ∷ 116 ∷ []

-- `enter`
abbrev pub enter : Text
enter = 101 ∷ 110 ∷ 116 ∷ 101 ∷ 114 ∷ []

-- `leave`
abbrev pub leave : Text
leave = 108 ∷ 101 ∷ 97 ∷ 118 ∷ 101 ∷ []

-- `block`
abbrev pub block : Text
block = 98 ∷ 108 ∷ 111 ∷ 99 ∷ 107 ∷ []

-- `blockraw`
abbrev pub blockraw : Text
blockraw = 98 ∷ 108 ∷ 111 ∷ 99 ∷ 107 ∷ 114 ∷ 97 ∷ 119 ∷ []

-- `estimate`
abbrev pub estimate : Text
estimate = 101 ∷ 115 ∷ 116 ∷ 105 ∷ 109 ∷ 97 ∷ 116 ∷ 101 ∷ []

-- `estimates`
abbrev pub estimates : Text
estimates = 101 ∷ 115 ∷ 116 ∷ 105 ∷ 109 ∷ 97 ∷ 116 ∷ 101 ∷ 115 ∷ []

-- `bucket`
abbrev pub bucket : Text
bucket = 98 ∷ 117 ∷ 99 ∷ 107 ∷ 101 ∷ 116 ∷ []

-- `write`
abbrev pub write : Text
write = 119 ∷ 114 ∷ 105 ∷ 116 ∷ 101 ∷ []

-- `read`
abbrev pub read : Text
read = 114 ∷ 101 ∷ 97 ∷ 100 ∷ []

-- `again`
abbrev pub again : Text
again = 97 ∷ 103 ∷ 97 ∷ 105 ∷ 110 ∷ []

-- `sum`
abbrev pub sum : Text
sum = 115 ∷ 117 ∷ 109 ∷ []

-- ---- words of fields

-- `narrow`
abbrev pub narrow : Text
narrow = 110 ∷ 97 ∷ 114 ∷ 114 ∷ 111 ∷ 119 ∷ []

-- `wide`
abbrev pub wide : Text
wide = 119 ∷ 105 ∷ 100 ∷ 101 ∷ []

-- `pending`
abbrev pub pending : Text
pending = 112 ∷ 101 ∷ 110 ∷ 100 ∷ 105 ∷ 110 ∷ 103 ∷ []

-- `confirmed`
abbrev pub confirmed : Text
confirmed = 99 ∷ 111 ∷ 110 ∷ 102 ∷ 105 ∷ 114 ∷ 109 ∷ 101 ∷ 100 ∷ []

-- `resolved`
abbrev pub resolved : Text
resolved = 114 ∷ 101 ∷ 115 ∷ 111 ∷ 108 ∷ 118 ∷ 101 ∷ 100 ∷ []

-- `nan`
abbrev pub nan : Text
nan = 110 ∷ 97 ∷ 110 ∷ []

-- `-`
abbrev pub dash : Text
dash = 45 ∷ []
