-- The state that a line of a script names, and what the estimator's calls do for it. Assumes nothing.
use Rattle.std.specs.Prelude.{ℕ, ◌-◌, ◌%◌, cond, List, [], ◌∷◌, ◌++◌, eqb, leb, length, drop, replicate, None, Some}
use Rattle.kinds.specs.declared.Height.{Height}
use Rattle.kinds.specs.declared.Horizon.{Horizon}
use Rattle.kinds.specs.Last.{Last}
use Rattle.kinds.specs.declared.State.{State}
use Rattle.kinds.specs.Answers.{Answer}
use Rattle.rules.specs.Board.{board_of}
use Rattle.rules.specs.Ids.{Id}
use Rattle.rules.specs.Memory.{Lent}
use Rattle.rules.specs.Calls.{Outcome, start_call, enter_call, leave_call, block_call}
use Rattle.format.specs.File.{version_of}
use Rattle.format.specs.Calls.{read_call}
use Rattle.lines.specs.declared.lines.Line.{Line}
use Rattle.desk_calls.specs.declared.calls.Reply.{Reply}
use Rattle.desk_calls.specs.declared.calls.Done.{Done}

-- all that can be seen of a line: what it has done, and the lent memory L after it
pub record Did (L : Type 0) : Type 0 where
  pub done : Done
  pub lent : L

-- the two
abbrev pub did : {L : Type 0} → Done → L → Did L
did d l = record { done = d; lent = l }

-- what is done
abbrev pub done : Reply → State → Done
done reply s = record { reply = reply; state = s }

-- a number for an answer
abbrev pub numbered : ℕ → State → Done
numbered n s = done (Reply.Number n) s

-- ---- what the fields say

-- a height, of 32 bits
abbrev pub height_of : ℕ → Height
height_of n = record { 0 = n % 4294967296 }

-- a last height, told plus 1, or 0 for none
abbrev pub last_of : ℕ → Last
last_of n = cond (eqb n 0) None (Some (height_of (n - 1)))

-- `state LAST P C`: the state becomes this
abbrev pub state_of : Line → State
state_of line = record { last = last_of line.a; pending = line.b; recent = line.c }

-- an id of zeros
abbrev pub zeros : Id
zeros = replicate 32 0

-- ID is 1 to 32 bytes, zero bytes added at the right; more bytes are none
unfoldable pub id_of : List ℕ → Id
id_of text = cond (leb (length text) 32) (text ++ drop (length text) zeros) zeros

-- ---- the calls

-- every call but a start and a reading: the number of its answer, and the state that it returns
unfoldable pub told : {L : Type 0} → Outcome L → Did L
told o = did (numbered o.answer.number o.state) o.lent

-- `enter ID RATE HEIGHT`
unfoldable pub enter_does : Horizon → Line → State → List ℕ → List ℕ → Did (List ℕ)
enter_does on line s text pending = told (enter_call (board_of on) s pending (id_of text) (record { 0 = line.b }) (height_of line.c))

-- `leave ID`
unfoldable pub leave_does : Horizon → State → List ℕ → List ℕ → Did (List ℕ)
leave_does on s text pending = told (leave_call (board_of on) s pending (id_of text))

-- `block HEIGHT ID ID ..` and `blockraw HEIGHT HEX`
unfoldable pub block_does : Horizon → Line → State → List ℕ → Lent → Did Lent
block_does on line s ids l = told (block_call (board_of on) s l ids (height_of line.a))

-- a refused `start` or `read` leaves the state that the run had
abbrev pub kept : ℕ → State → State → State
kept n after before = cond (eqb n 0) after before

-- a start or a reading with this reply
unfoldable pub begun : State → Reply → Outcome Lent → Did Lent
begun s reply o = did (done reply (kept o.answer.number o.state s)) o.lent

-- `start`
unfoldable pub start_does : Horizon → State → Lent → Did Lent
start_does on s l = let o = start_call (board_of on) l in begun s (Reply.Number o.answer.number) o

-- the number of an answer, and the value that it carries, if there is one
unfoldable pub carried : ℕ → List ℕ → Reply
carried n [] = Reply.Number n
carried n (v ∷ vs) = Reply.Carrying n v

-- what an answer is told as
abbrev pub reply_of : Answer → Reply
reply_of a = carried a.number a.carries

-- `read HEX` and `again`: a board takes its own version alone
unfoldable pub read_does : Horizon → State → List ℕ → Lent → Did Lent
read_does on s history l = let o = read_call (version_of on) (board_of on) l history in begun s (reply_of o.answer) o
