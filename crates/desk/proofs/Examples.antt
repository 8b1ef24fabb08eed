-- Lines over a little lent memory, computed: each side of their edges. Assumes nothing.
use Prim.Native.Nat.{ℕ}
use mathlib.Core.Path.{◌≡◌, refl}
use mathlib.Core.Bool.{true, false}
use mathlib.Core.List.{List, [], ◌∷◌, ◌++◌}
use lib.ListN.{replicate}
use lib.Ieee.{nan, inf, of_bits}
use Rattle.std.specs.Prelude.{Some, None}
use Rattle.kinds.specs.declared.Horizon.{Horizon}
use Rattle.kinds.specs.declared.State.{State}
use Rattle.rules.specs.Counts.{nought}
use Rattle.rules.specs.Memory.{Lent, lent}
use Rattle.rules.proofs.Computed.{compute_calls}
use Rattle.format.specs.Parts.{◌>>=◌, ◌>>◌, give, must, takes, number, ended}
use Rattle.format.specs.File.{magic, read_last, read_start, read_after, read_head, read_file, read_history}
use Rattle.format.specs.Calls.{taken_in, read_call}
use Rattle.print.specs.Page.{write}
use Rattle.page.specs.declared.page.Operation.{Operation}
use Rattle.desk_lays.specs.Lays.{cleared, in_one, byte_lays, with_count, count_lays, operation_lays}
use Rattle.desk_calls.specs.declared.calls.Reply.{Reply}
use Rattle.desk_calls.specs.Calls.{done, numbered, zeros, id_of, told, enter_does, leave_does, block_does, begun, start_does, carried, read_does}
use Rattle.desk.specs.Desk.{Changed, changed, silent, in_pending, operation_does, line_does}

-- the state before each line
abbrev run : State
run = record { last = Some (record { 0 = 7 }); pending = 1; recent = 2 }

-- what is lent before it: one confirmed and two resolved counts, three bytes and two
abbrev little : Lent
little = lent (nought ∷ []) (inf true ∷ nought ∷ []) (1 ∷ 2 ∷ 3 ∷ []) (4 ∷ 5 ∷ [])

-- what a line with these values and bytes does on a board, to what is lent there
abbrev does_on : Horizon → Lent → Operation → ℕ → ℕ → ℕ → List ℕ → Changed
does_on on l of a b c text = line_does on (Some (record { operation = of; a = a; b = b; c = c; d = 0 })) run text l

-- the same on the narrow board, to that little
abbrev does : Operation → ℕ → ℕ → ℕ → List ℕ → Changed
does of a b c text = does_on Horizon.Base little of a b c text

-- ---- byte

-- the bytes end where the table ends, or a byte behind it; no bytes fit where the table ends, and not behind it
bytes : does Operation.Byte 0 1 0 (8 ∷ 9 ∷ []) ∷ does Operation.Byte 0 2 0 (8 ∷ 9 ∷ []) ∷ does Operation.Byte 1 0 0 (8 ∷ 9 ∷ []) ∷ does Operation.Byte 1 2 0 [] ∷ does Operation.Byte 1 3 0 [] ∷ []
    ≡ changed (Some (silent run)) (lent (nought ∷ []) (inf true ∷ nought ∷ []) (1 ∷ 8 ∷ 9 ∷ []) (4 ∷ 5 ∷ []))
    ∷ changed None little
    ∷ changed (Some (silent run)) (lent (nought ∷ []) (inf true ∷ nought ∷ []) (1 ∷ 2 ∷ 3 ∷ []) (8 ∷ 9 ∷ []))
    ∷ changed (Some (silent run)) little
    ∷ changed None little
    ∷ []
unfolding operation_does operation_lays byte_lays in_one write
bytes = refl

-- ---- count

-- the bits of infinity and of a NaN; there is one confirmed count
counts : does Operation.Count 0 0 9218868437227405312 [] ∷ does Operation.Count 0 1 0 [] ∷ does Operation.Count 1 1 9221120237041090560 [] ∷ []
    ≡ changed (Some (silent run)) (lent (inf false ∷ []) (inf true ∷ nought ∷ []) (1 ∷ 2 ∷ 3 ∷ []) (4 ∷ 5 ∷ []))
    ∷ changed None little
    ∷ changed (Some (silent run)) (lent (nought ∷ []) (inf true ∷ nan ∷ []) (1 ∷ 2 ∷ 3 ∷ []) (4 ∷ 5 ∷ []))
    ∷ []
unfolding operation_does operation_lays count_lays in_one with_count of_bits
counts = refl

-- ---- lend, state, and lines that do nothing

-- all is zero; a last height is told plus 1
others : does Operation.Lend 3 2 1 [] ∷ does Operation.State 0 5 6 [] ∷ does Operation.State 1 5 6 [] ∷ does Operation.Sum 0 0 0 [] ∷ does Operation.Board 1 0 0 [] ∷ line_does Horizon.Base None run [] little ∷ []
    ≡ changed (Some (silent run)) (lent (nought ∷ []) (nought ∷ nought ∷ []) (0 ∷ 0 ∷ 0 ∷ []) (0 ∷ 0 ∷ []))
    ∷ changed (Some (silent (record { last = None; pending = 5; recent = 6 }))) little
    ∷ changed (Some (silent (record { last = Some (record { 0 = 0 }); pending = 5; recent = 6 }))) little
    ∷ changed (Some (silent run)) little
    ∷ changed (Some (silent run)) little
    ∷ changed None little
    ∷ []
unfolding operation_does operation_lays cleared
others = refl

-- ---- calls

-- so little memory is Damaged, and a refused start or reading leaves the state
refusals : does Operation.Start 0 0 0 [] ∷ does Operation.Enter 0 0 0 [] ∷ does Operation.Leave 0 0 0 [] ∷ does Operation.Block 0 0 0 [] ∷ does Operation.Read 0 0 0 [] ∷ []
    ≡ replicate 5 (changed (Some (numbered 1 run)) little)
unfolding compute_calls operation_does start_does begun enter_does leave_does in_pending told block_does read_does carried read_call
refusals = refl

-- an id of two bytes, and of 32; 33 bytes are none
ids : id_of (1 ∷ 2 ∷ []) ∷ id_of (replicate 32 7) ∷ id_of (replicate 33 7) ∷ [] ≡ (1 ∷ 2 ∷ replicate 30 0) ∷ replicate 32 7 ∷ zeros ∷ []
unfolding id_of
ids = refl

-- ---- a board's own version

-- as many counts as there are, and no record
abbrev counted : Lent
counted = lent (replicate 3550 nought) (replicate 3550 nought) [] []

-- what the reading of a file that ends with its version does there
abbrev reads : Horizon → ℕ → Changed
reads on version = does_on on counted Operation.Read 0 0 0 (magic ++ (version ∷ 0 ∷ 0 ∷ 0 ∷ []))

-- an answer with what it carries, and the state as it was
abbrev carrying : ℕ → ℕ → Changed
carrying n v = changed (Some (done (Reply.Carrying n v) run)) counted

-- the other board's version is 9 and told; of its own only the rest of the file is missing: 10
versions : reads Horizon.Wide 1 ∷ reads Horizon.Wide 3 ∷ reads Horizon.Base 1 ∷ reads Horizon.Base 3 ∷ []
    ≡ carrying 9 1 ∷ changed (Some (numbered 10 run)) counted ∷ changed (Some (numbered 10 run)) counted ∷ carrying 9 3 ∷ []
unfolding compute_calls operation_does read_does begun carried read_call taken_in read_history ended read_file read_head read_after read_start read_last ◌>>=◌ ◌>>◌ takes must number give
versions = refl
