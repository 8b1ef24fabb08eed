-- The state in four words: whether there is a last height (1 or 0), the height (0 where there is none), and how many pending and confirmed records are used.
-- Assumes nothing.
use Rattle.std.specs.Prelude.{◌≡◌, ℕ, ◌^◌, ◌<◌, Bool, true, ◌&&◌, cond, List, ◌∷◌, leb, ltb, eqb, length, get_or, drop, None, Some, Result, Ok, Err}
use Rattle.kinds.specs.Last.{Last}
use Rattle.kinds.specs.declared.State.{State}

-- the two words are a last height: 0 and 0, or 1 and a height
unfoldable pub holds_last : ℕ → ℕ → Bool
holds_last flag height = cond (eqb flag 0) (eqb height 0) (eqb flag 1 && ltb height (2 ^ 32))

-- the last height that the two words are
unfoldable pub last_in : ℕ → ℕ → Last
last_in flag height = cond (eqb flag 0) None (Some (record { 0 = height }))

-- the words hold a state
unfoldable pub holds_state : List ℕ → Bool
holds_state ws = leb 4 (length ws) && holds_last (get_or ws 0 0) (get_or ws 1 0)

-- the state that words hold
unfoldable pub state_in : List ℕ → State
state_in ws = record { last = last_in (get_or ws 0 0) (get_or ws 1 0); pending = get_or ws 2 0; recent = get_or ws 3 0 }

-- whether there is a last height
abbrev pub flag_of : Last → ℕ
flag_of None = 0
flag_of (Some h) = 1

-- the height, or 0
abbrev pub height_of : Last → ℕ
height_of None = 0
height_of (Some h) = h.0

-- the first four words become the state's; anything after them stays
unfoldable pub put_state : State → List ℕ → List ℕ
put_state s ws = flag_of s.last ∷ height_of s.last ∷ s.pending ∷ s.recent ∷ drop 4 ws

-- the state of a fresh start or of a reading goes into the words where its number is that of Done; refused, there is none
unfoldable pub put_if_done : ℕ → State → List ℕ → List ℕ
put_if_done number s ws = cond (eqb number 0) (put_state s ws) ws

-- the state of a call that is done goes into the words; refused, they stay
abbrev pub put_ok : {E : Type 0} → Result State E → List ℕ → List ℕ
put_ok (Ok s) ws = put_state s ws
put_ok (Err e) ws = ws

-- ---- what the words promise

-- Words that hold a state are that state's own words; a state comes back out of its words, and they hold it, since a height has 32 bits.
pub record WordsPromise : Type 0 where
  pub own : (ws : List ℕ) → holds_state ws ≡ true → put_state (state_in ws) ws ≡ ws
  pub back : (s : State) (ws : List ℕ) → state_in (put_state s ws) ≡ s
  pub held : (s : State) (ws : List ℕ) → height_of s.last < 2 ^ 32 → holds_state (put_state s ws) ≡ true
