-- The table of the scripts' page: the operations by their first words, and the fields that follow each. Assumes nothing.
use Rattle.std.specs.Prelude.{ℕ, Bool, cond, List, [], ◌∷◌, ◌++◌, Option, Some, None}
use Rattle.std.specs.Option.{option_or}
use Rattle.kinds.specs.declared.Horizon.{Horizon}
use Rattle.rules.specs.Ids.{same}
use Rattle.page.specs.Words.{Text, board, lend, byte, count, state, start, enter, leave, block, blockraw, estimate, estimates, bucket, write, read, again, sum}
use Rattle.page.specs.declared.page.Operation.{Operation}
use Rattle.page.specs.declared.page.Field.{Field}
use Rattle.page.specs.declared.page.Fields.{Fields}

-- ---- the operations

-- a first word, and its operation
pub record Row : Type 0 where
  pub word : Text
  pub of : Operation

-- a row
abbrev pub row : Text → Operation → Row
row word of = record { word = word; of = of }

-- which board it is, and what is lent to it
abbrev pub openings : List Row
openings = row lend Operation.Lend ∷ row board Operation.Board ∷ []

-- damage to what is lent, and sums of it
abbrev pub memory : List Row
memory = row byte Operation.Byte ∷ row count Operation.Count ∷ row state Operation.State ∷ row sum Operation.Sum ∷ []

-- calls that change what the estimator holds
abbrev pub calls : List Row
calls =
    row start Operation.Start
    ∷ row enter Operation.Enter
    ∷ row leave Operation.Leave
    ∷ row block Operation.Block
    ∷ row blockraw Operation.BlockRaw
    ∷ []

-- questions, and histories
abbrev pub questions : List Row
questions =
    row estimate Operation.Estimate
    ∷ row estimates Operation.Estimates
    ∷ row bucket Operation.Bucket
    ∷ row write Operation.Write
    ∷ row read Operation.Read
    ∷ row again Operation.Again
    ∷ []

-- the operation of the row that begins with w
unfoldable pub found : List Row → Text → Option Operation
found [] w = None
found (r ∷ rs) w = cond (same w r.word) (Some r.of) (found rs w)

-- the operation that a first word names, of those for a lent board
unfoldable pub operation_of : Text → Option Operation
operation_of w = found (memory ++ (calls ++ questions)) w

-- the operation of a first word; any other line than these two, for a board that is not lent yet, is a bad one
unfoldable pub allowed : Bool → Text → Option Operation
allowed begun w = option_or (found openings w) (cond begun (operation_of w) None)

-- ---- the bounds

-- the most bytes for a board's pending records
abbrev pub most_pending : Horizon → ℕ
most_pending Horizon.Base = 440100
most_pending Horizon.Wide = 44100

-- the most bytes for a board's confirmed records
abbrev pub most_recent : Horizon → ℕ
most_recent Horizon.Base = 720100
most_recent Horizon.Wide = 72100

-- the furthest place in a table, of either board
abbrev pub most_place : ℕ
most_place = 720100

-- the most doubles of each kind
abbrev pub most_counts : ℕ
most_counts = 3600

-- the most bytes that a history is written into, and that are given in digits
abbrev pub most_history : ℕ
most_history = 1400000

-- the highest number of 32 bits
abbrev pub most_short : ℕ
most_short = 4294967295

-- the most ids of a block
abbrev pub most_ids : ℕ
most_ids = 4096

-- ---- the fields

-- a number of 32 bits: heights, targets, used numbers
abbrev pub short : Field
short = Field.Number most_short

-- a number of 64 bits: rates
abbrev pub long : Field
long = Field.Number 18446744073709551615

-- an id's bytes
abbrev pub id : Field
id = Field.Bytes 32

-- bytes of a table
abbrev pub some : Field
some = Field.Bytes most_history

-- four fields
abbrev pub four : Field → Field → Field → Field → Fields
four a b c d = record { 0 = a; 1 = b; 2 = c; 3 = d }

-- one field, or none
abbrev pub one : Field → Fields
one a = four a Field.Nothing Field.Nothing Field.Nothing

-- the fields of each operation on a board, in the order of the line
abbrev pub fields_of : Horizon → Operation → Fields
fields_of on Operation.Board = one Field.Board
fields_of on Operation.Lend = four (Field.Number (most_pending on)) (Field.Number (most_recent on)) (Field.Number most_counts) (Field.Number most_counts)
fields_of on Operation.Byte = four Field.Table (Field.Number most_place) some Field.Nothing
fields_of on Operation.Count = four Field.Kind (Field.Number most_counts) Field.Pattern Field.Nothing
fields_of on Operation.State = four Field.Last short short Field.Nothing
fields_of on Operation.Enter = four id long short Field.Nothing
fields_of on Operation.Leave = one id
fields_of on Operation.Block = four short Field.Ids Field.Nothing Field.Nothing
fields_of on Operation.BlockRaw = four short Field.Any Field.Nothing Field.Nothing
fields_of on Operation.Estimate = one short
fields_of on Operation.Bucket = one long
fields_of on Operation.Write = one (Field.Number most_history)
fields_of on Operation.Read = one Field.Any
fields_of on Operation.Start = one Field.Nothing
fields_of on Operation.Estimates = one Field.Nothing
fields_of on Operation.Again = one Field.Nothing
fields_of on Operation.Sum = one Field.Nothing
fields_of on Operation.PassedOver = one Field.Nothing
