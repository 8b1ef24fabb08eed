-- The calls of the C ABI, on the board that a horizon names: for each the answer's number and all that is lent, afterwards. They are the calls of rules and
-- format over a state in words, and the history has the board's own version. Assumes nothing.
use Rattle.std.specs.Prelude.{◌≡◌, ℕ, Bool, ◌&&◌, cond, List, [], ◌∷◌, leb, eqb, length, get_or, set, Float, Option, None, Some}
use Rattle.kinds.specs.declared.Horizon.{Horizon}
use Rattle.kinds.specs.Answers.{Answer}
use Rattle.rules.specs.Ladder.{bucket_for}
use Rattle.rules.specs.Board.{board_of}
use Rattle.rules.specs.Memory.{Lent}
use Rattle.rules.specs.Calls.{Outcome, start_call, enter_call, leave_call, block_call, estimate_call}
use Rattle.format.specs.File.{version_of}
use Rattle.format.specs.Calls.{write_call, read_call}
use Rattle.boundary.specs.Words.{holds_state, state_in, put_state, put_if_done}

-- The version of the C ABI. It moves by one where the state's words, a record's bytes, a call's parameters or the answers to them change.
abbrev pub abi_version : ℕ
abi_version = 3

-- ---- the bucket of a rate, on either board

-- the first number that is no bucket's
abbrev pub no_bucket : ℕ
no_bucket = 142

-- a bucket's number, or that one for none
abbrev pub bucket_number : Option ℕ → ℕ
bucket_number None = no_bucket
bucket_number (Some b) = b

-- Bucket lookup.
unfoldable pub izr_bucket_index_for_rate : ℕ → ℕ
izr_bucket_index_for_rate rate = bucket_number (bucket_for rate)

-- The number tells the lookup's answer: where two rates have one number, they have one bucket, or both none.
unfoldable pub LookupPromise : Type 0
LookupPromise = (x y : ℕ) → izr_bucket_index_for_rate x ≡ izr_bucket_index_for_rate y → bucket_for x ≡ bucket_for y

-- ---- what a caller sees of the other calls

-- all that a caller can see of a call: the number, the state's words, the words for what the answer carries, and the rest of what it lends, an L
pub record Seen (L : Type 0) : Type 0 where
  pub number : ℕ
  pub words : List ℕ
  pub carried : List ℕ
  pub lent : L

-- the four
abbrev pub seen : {L : Type 0} → ℕ → List ℕ → List ℕ → L → Seen L
seen n ws cs l = record { number = n; words = ws; carried = cs; lent = l }

-- Damaged, and nothing is changed, unless what is given fits
unfoldable pub if_fit : {L : Type 0} → Bool → List ℕ → List ℕ → L → Seen L → Seen L
if_fit fit ws cs l s = cond fit s (seen 1 ws cs l)

-- a call's state goes into the words
unfoldable pub told : {L : Type 0} → List ℕ → Outcome L → Seen L
told ws o = seen o.answer.number (put_state o.state ws) [] o.lent

-- the first word becomes the value that is carried, if there is one
unfoldable pub carry : List ℕ → List ℕ → List ℕ
carry [] cs = cs
carry (v ∷ vs) cs = set cs 0 v

-- a fresh start or a reading
unfoldable pub begun : {L : Type 0} → List ℕ → List ℕ → Outcome L → Seen L
begun ws cs o = seen o.answer.number (put_if_done o.answer.number o.state ws) (carry o.answer.carries cs) o.lent

-- ---- each of them

-- Fresh start.
unfoldable pub izr_new : Horizon → List ℕ → Lent → Seen Lent
izr_new on ws l = if_fit (leb 4 (length ws)) ws [] l (begun ws [] (start_call (board_of on) l))

-- Enter.
unfoldable pub izr_tx_entered : Horizon → List ℕ → List ℕ → List ℕ → ℕ → ℕ → Seen (List ℕ)
izr_tx_entered on ws xs id rate h =
    if_fit (holds_state ws && eqb (length id) 32) ws [] xs (told ws (enter_call (board_of on) (state_in ws) xs id (record { 0 = rate }) (record { 0 = h })))

-- Leave.
unfoldable pub izr_tx_left : Horizon → List ℕ → List ℕ → List ℕ → Seen (List ℕ)
izr_tx_left on ws xs id = if_fit (holds_state ws && eqb (length id) 32) ws [] xs (told ws (leave_call (board_of on) (state_in ws) xs id))

-- Block.
unfoldable pub izr_block_connected : Horizon → List ℕ → Lent → List ℕ → ℕ → Seen Lent
izr_block_connected on ws l ids h = if_fit (holds_state ws) ws [] l (told ws (block_call (board_of on) (state_in ws) l ids (record { 0 = h })))

-- an estimate that is done carries its rate, or 0 for none
unfoldable pub rate_carried : Answer → List ℕ
rate_carried a = cond (eqb a.number 0) (get_or a.carries 0 0 ∷ []) []

-- Estimate. It changes nothing but the carried word.
unfoldable pub izr_estimate : Horizon → List ℕ → List Float → List Float → ℕ → List ℕ → Seen Unit
izr_estimate on ws confirmed resolved target cs =
    let a = estimate_call (board_of on) (state_in ws) confirmed resolved (record { 0 = target }) in
    if_fit (holds_state ws && leb 1 (length cs)) ws cs tt (seen a.number ws (carry (rate_carried a) cs) tt)

-- a write that is done carries the length, and one that is refused what its answer carries
unfoldable pub length_carried : Answer → ℕ → List ℕ
length_carried a len = cond (eqb a.number 0) (len ∷ []) a.carries

-- Write. It changes nothing but the output and the carried word.
unfoldable pub izr_to_history_bytes : Horizon → List ℕ → Lent → List ℕ → List ℕ → Seen (List ℕ)
izr_to_history_bytes on ws l out cs =
    let o = write_call (version_of on) (board_of on) (state_in ws) l out in
    if_fit (holds_state ws && leb 1 (length cs)) ws cs out (seen o.answer.number ws (carry (length_carried o.answer o.lent.len) cs) o.lent.bytes)

-- Read.
unfoldable pub izr_from_history_bytes : Horizon → List ℕ → Lent → List ℕ → List ℕ → Seen Lent
izr_from_history_bytes on file l ws cs = if_fit (leb 4 (length ws) && leb 1 (length cs)) ws cs l (begun ws cs (read_call (version_of on) (board_of on) l file))
