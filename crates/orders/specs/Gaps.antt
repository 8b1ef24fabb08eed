-- Heights that no block came for: blocks that list nothing, on the way to a block, change nothing of what that block leaves, nor of the room that it finds. So a
-- caller crosses a gap that is too wide for one call. Assumes nothing.
use Rattle.std.specs.Prelude.{◌≡◌, ℕ, ◌-◌, ◌%◌, ◌^◌, ◌≤◌, ◌<◌, Bool, true, ◌&&◌, cond, List, [], ◌∷◌, leb, ltb, eqb, length, None, Some}
use Rattle.kinds.specs.declared.State.{State}
use Rattle.kinds.specs.Answers.{done, gap_too_wide, confirmed_full}
use Rattle.rules.specs.Ids.{Id}
use Rattle.rules.specs.Board.{Board}
use Rattle.rules.specs.Estimator.{Estimator, advance_height, block_connected}
use Rattle.rules.specs.Memory.{Lent, confirmed_capacity, sound, view}
use Rattle.rules.specs.Calls.{Outcome, outcome, refused, accepted, widest_gap, ids_of, held_once_listed, block_call}
use Rattle.ready.proofs.Stays.{Typed}

-- ---- heights on the way

-- each is above the one before, the first above L, and B above the last
unfoldable pub climbing : ℕ → List ℕ → ℕ → Bool
climbing L [] B = ltb L B
climbing L (h ∷ hs) B = ltb L h && climbing h hs B

-- none of them is more than 4,096 above the one before, or above L
unfoldable pub near : ℕ → List ℕ → Bool
near L [] = true
near L (h ∷ hs) = leb (h - L) widest_gap && near h hs

-- the last of them, or L
unfoldable pub last_of : ℕ → List ℕ → ℕ
last_of L [] = L
last_of L (h ∷ hs) = last_of h hs

-- ---- document 01's steps

-- a block that lists nothing at each of the heights
unfoldable pub empty_steps : Board → List ℕ → Estimator → Estimator
empty_steps k [] e = e
empty_steps k (h ∷ hs) e = empty_steps k hs (block_connected k [] h e)

-- what blocks that list nothing do, on the way to a block at B
pub record GapSteps (k : Board) (e : Estimator) : Type 0 where
  -- one of them, above the last height and below B, changes nothing of what the block at B leaves
  pub one : (L h B : ℕ) (ids : List Id) → e.last ≡ Some (record { 0 = L }) → L < h → h < B → block_connected k ids B (block_connected k [] h e) ≡ block_connected k ids B e
  -- nor do any number of them that climb
  pub many : (L : ℕ) (hs : List ℕ) (B : ℕ) (ids : List Id) → e.last ≡ Some (record { 0 = L }) → climbing L hs B ≡ true → block_connected k ids B (empty_steps k hs e) ≡ block_connected k ids B e
  -- The block at B finds the room that it would have found without them.
  pub room : (L : ℕ) (hs : List ℕ) (B : ℕ) (ids : List Id) → e.last ≡ Some (record { 0 = L }) → climbing L hs B ≡ true → held_once_listed k ids B (empty_steps k hs e) ≡ held_once_listed k ids B e
  -- one that is not above the last height does nothing at all
  pub below : (L h : ℕ) → e.last ≡ Some (record { 0 = L }) → h ≤ L → block_connected k [] h e ≡ e
  -- With no last height there is no gap: it is the first block, and advances its one height.
  pub first : (h : ℕ) → e.last ≡ None → block_connected k [] h e ≡ advance_height k h e

-- ---- the calls

-- a call that connects a block that lists nothing at each of the heights: what the last of them leaves
unfoldable pub empty_calls : Board → List ℕ → State → Lent → Outcome Lent
empty_calls k [] s l = outcome done s l
empty_calls k (h ∷ hs) s l = let o = block_call k s l [] (record { 0 = h }) in empty_calls k hs o.state o.lent

-- each of them is Done
unfoldable pub all_done : Board → List ℕ → State → Lent → Bool
all_done k [] s l = true
all_done k (h ∷ hs) s l = let o = block_call k s l [] (record { 0 = h }) in eqb o.answer.number 0 && all_done k hs o.state o.lent

-- the block at B after them
abbrev pub then_block : Board → List ℕ → List ℕ → ℕ → State → Lent → Outcome Lent
then_block k hs ids B s l = let o = empty_calls k hs s l in block_call k o.state o.lent ids (record { 0 = B })

-- the block at B alone
abbrev pub alone : Board → List ℕ → ℕ → State → Lent → Outcome Lent
alone k ids B s l = block_call k s l ids (record { 0 = B })

-- blocks at the heights that list nothing, and then a block at B that lists ids, where the last height is L
pub record Crossed (k : Board) (s : State) (l : Lent) (L : ℕ) (hs ids : List ℕ) (B : ℕ) : Type 0 where
  -- the first are Done
  pub answered : all_done k hs s l ≡ true
  -- The last, where it is Done, leaves what document 01's one step at B leaves: the same state and the same bytes, those past the capacities among them.
  pub as_one_step : (then_block k hs ids B s l).answer.number ≡ 0 → then_block k hs ids B s l ≡ accepted k (block_connected k (ids_of ids) B (view k s l)) l
  -- Where its list is whole ids and it is near enough, it is Done, or 7 if the confirmed records, once its list is in, would be too many: told from memory before all of them.
  pub finds_room : length ids % 32 ≡ 0 → B - last_of L hs ≤ widest_gap
      → (then_block k hs ids B s l).answer ≡ cond (ltb (confirmed_capacity l.recent) (held_once_listed k (ids_of ids) B (view k s l))) confirmed_full done
  -- So where the block alone would have been Done, it is Done after them too, and all is as if it had come alone.
  pub as_alone : (alone k ids B s l).answer.number ≡ 0 → then_block k hs ids B s l ≡ alone k ids B s l
  -- Where it would have been too far, it alone is GapTooWide, and changes nothing; the first three then say what a caller has.
  pub too_far : length ids % 32 ≡ 0 → widest_gap < B - L → alone k ids B s l ≡ refused gap_too_wide s l

-- ---- the promise

-- of document 01's steps, whatever the estimator; and of the calls, on whatever sound memory that has a last height
pub record GapPromise (k : Board) : Type 0 where
  pub steps : (e : Estimator) → GapSteps k e
  pub calls : (s : State) (l : Lent) → Typed l → sound k s l ≡ true → (L : ℕ) → s.last ≡ Some (record { 0 = L })
      → (hs ids : List ℕ) (B : ℕ) → climbing L hs B ≡ true → near L hs ≡ true → B < 2 ^ 32 → Crossed k s l L hs ids B
