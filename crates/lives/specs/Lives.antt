-- The life of a caller: every public call, in any order, each given the state and the slices as the call before left them, or other memory that is lent anew
-- between two calls. "A run begins with a fresh start or an accepted reading of any kind, and each later accepted one begins another run. .. a reading or a
-- fresh start that is refused gives the run no state, and the run goes on with the state it had before." Assumes nothing.
use Rattle.std.specs.Prelude.{◌≡◌, ℕ, Bool, true, false, cond, List, [], ◌∷◌, T, eqb}
use Rattle.std.proofs.Math.Pow.{are_bytes}
use Rattle.kinds.specs.declared.Blocks.{Blocks}
use Rattle.kinds.specs.declared.State.{State}
use Rattle.rules.specs.Board.{Board}
use Rattle.rules.specs.Memory.{Lent}
use Rattle.rules.specs.Calls.{Outcome, start_call}
use Rattle.format.specs.File.{Version}
use Rattle.format.specs.Calls.{write_call, read_call}
use Rattle.meaning.specs.Runs.{begin, Rising, singly, Call, Typed, Held, after}
use Rattle.meaning.specs.Fates.{Meant}
use Rattle.meaning.specs.Answered.{Answered, Restated}
use Rattle.meaning.specs.Success.{Success}
use Rattle.meaning.specs.Floor.{Floored}
use Rattle.lives.specs.Anew.{Anew, refitted}

-- a public call, or other memory for the calls that follow
pub data Ask : Type 0 where
  start : Ask
  change : Call → Ask  -- enter, leave, block
  estimate : Blocks → Ask  -- target
  write : List ℕ → Ask  -- the output as it is lent
  read : List ℕ → Ask  -- the file's bytes
  lend : Lent → Ask  -- what is lent from here on

-- what a caller has, and whether the run that stands began with a fresh start
pub record Life : Type 0 where
  pub is_fresh : Bool
  pub held : Held

-- the life goes on in its run, and this is what the caller has now
abbrev pub holding : Life → Held → Life
holding y x = record { is_fresh = y.is_fresh; held = x }

-- the life goes on with this state and memory, and the log as it was
abbrev pub goes_on : Life → State → Lent → Life
goes_on y s m = holding y (record { state = s; memory = m; log = y.held.log })

-- a run begins, after a fresh start (true) or a reading (false)
abbrev pub begins : Bool → State → Lent → Life
begins f s m = record { is_fresh = f; held = record { state = s; memory = m; log = begin } }

-- after a fresh start (true) or a reading (false): another run if it is answered 0, and otherwise the one before, with the state it had before
unfoldable pub begun : Bool → Outcome Lent → Life → Life
begun f o y = cond (eqb o.answer.number 0) (begins f o.state o.lent) (goes_on y y.held.state o.lent)

-- what a caller has after a call
unfoldable pub next : Version → Board → Ask → Life → Life
next v k start y = begun true (start_call k y.held.memory) y
next v k (change c) y = holding y (after k c y.held)
next v k (estimate target) y = y
next v k (write out) y = goes_on y (write_call v k y.held.state y.held.memory out).state y.held.memory
next v k (read file) y = begun false (read_call v k y.held.memory file) y
next v k (lend l) y = goes_on y y.held.state l

-- after some calls
unfoldable pub lives : Version → Board → List Ask → Life → Life
lives v k [] y = y
lives v k (q ∷ qs) y = lives v k qs (next v k q y)

-- what the code's types say of the arguments; of other memory: that its tables are bytes
unfoldable pub TypedAsk : Ask → Type 0
TypedAsk start = Unit {0}
TypedAsk (change c) = Typed c
TypedAsk (estimate target) = Unit {0}
TypedAsk (write out) = Unit {0}
TypedAsk (read file) = Unit {0}
TypedAsk (lend l) = T (are_bytes l.pending) × T (are_bytes l.recent)

-- of each call
unfoldable pub TypedAsks : List Ask → Type 0
TypedAsks [] = Unit {0}
TypedAsks (q ∷ qs) = TypedAsk q × TypedAsks qs

-- What is asked of a caller: other memory that is lent in a run which began with a fresh start holds what the run holds. (One who lends anything else there has
-- left the run: what is promised below holds of the life from there on, since a life may begin with any memory.)
unfoldable pub Fair : Board → Ask → Life → Type 0
Fair k start y = Unit {0}
Fair k (change c) y = Unit {0}
Fair k (estimate target) y = Unit {0}
Fair k (write out) y = Unit {0}
Fair k (read file) y = Unit {0}
Fair k (lend l) y = y.is_fresh ≡ true → Anew k y.held.state y.held.memory l

-- each time
unfoldable pub AllFair : Version → Board → List Ask → Life → Type 0
AllFair v k [] y = Unit {0}
AllFair v k (q ∷ qs) y = Fair k q y × AllFair v k qs (next v k q y)

-- ---- estimates, writes, and readings and fresh starts that are refused stand anywhere and change nothing

-- an ask that stands aside: it changes nothing
unfoldable pub Aside : Version → Board → Ask → Life → Type 0
Aside v k start y = eqb (start_call k y.held.memory).answer.number 0 ≡ false
Aside v k (change c) y = ⊥
Aside v k (estimate target) y = Unit {0}
Aside v k (write out) y = Unit {0}
Aside v k (read file) y = eqb (read_call v k y.held.memory file).answer.number 0 ≡ false
Aside v k (lend l) y = ⊥

-- what stands aside leaves the life as it was
unfoldable pub AsidePromise : Version → Board → Type 0
AsidePromise v k = (q : Ask) (y : Life) → Aside v k q y → next v k q y ≡ y

-- ---- at any time both tables may be cut to their used records, and grow by zeros

-- in every life that is fair
unfoldable pub RefitPromise : Version → Board → Type 0
RefitPromise v k = (m : Life) → m.is_fresh ≡ false → (qs : List Ask) → TypedAsks qs → AllFair v k qs m → (a b : ℕ) → let y = lives v k qs m in Fair k (lend (refitted k y.held.state y.held.memory a b)) y

-- ---- demand 3, of every life: whatever a caller had before, and whatever was called since, if the run that stands began with a fresh start and its
-- accepted blocks rise

-- what the counts mean, in two sentences of demand 3 once more, what the calls answer, that success lies between none and all, and that no admission is below the floor
pub record Lived (k : Board) (x : Held) : Type 0 where
  pub meant : Meant k (singly x.log) x
  pub restated : Restated k (singly x.log) x
  pub answered : Answered k (singly x.log) x
  pub success : Success k x.memory.confirmed x.memory.resolved
  pub floored : Floored x.log

-- every life whose present run began fresh and has rising blocks is so
unfoldable pub LifePromise : Version → Board → Type 0
LifePromise v k = (m : Life) → m.is_fresh ≡ false → (qs : List Ask) → TypedAsks qs → AllFair v k qs m → let y = lives v k qs m in y.is_fresh ≡ true → Rising y.held.log → Lived k y.held
