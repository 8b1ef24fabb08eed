-- `entries::tx_entered` meets its contract: each of its answers is the definition's, by the laws of `Answered`. Assumes nothing.
use Rattle.std.specs.Prelude.{Err}
use mathlib.Core.Path.{◌≡◌, sym, ap, ◌∙◌}
use mathlib.Core.Bool.{true, false}
use Prim.Native.Nat.{ℕ, ◌+◌, ◌*◌, ◌<◌, ◌≤◌}
use mathlib.Core.List.{List}
use native.Mathlib.Omega.{arith}
use lib.Dec.{ltb}
use lib.ListN.{length}
use Rattle.rules.specs.Ladder.{floor, bucket_index}
use Rattle.rules.specs.Board.{Board, board_of, pending_most}
use Rattle.rules.proofs.Boards.{board_lawful}
use Rattle.rules.specs.Records.{capacity}
use Rattle.rules.specs.Memory.{pending_capacity, sound_pending}
use Rattle.rules.proofs.Rates.{bucket_lt, low_of, high_of}
use Rattle.rules.proofs.Memory.{pending_table, pending_within}
use Rattle.rules.proofs.Bytes.{are_bytes_lem}
use Rattle.by_id.proofs.ById.{searchable, told, gap_used}
use Rattle.entries.proofs.Answered.{Given, Ends, one_more, enter_damaged, enter_low, enter_there, enter_full, enter_done}
use borrow.Author.Rules.{rules}
use Rattle.entries.proofs.tx_entered.Goals as goal
use Rattle.entries.proofs.tx_entered.Goals.{After-capacity, Else-not-judge_pending, In-Some, In-Err, Start}

abbrev given : Start → Given
given s = record { state = s.args.state; table = s.args.pending.now; id = s.args.id.now }

abbrev board : Start → Board
board s = board_of s.args.on

-- past the first test the table is sound
sound : (c : Else-not-judge_pending) → sound_pending (board_of c.args.on) c.args.state.pending c.args.pending.now ≡ true
sound c = sym c.judge_pending.ensures ∙ c.if-not-judge_pending.false

-- past the second the rate has a bucket
found : (c : In-Some) → (ltb c.args.rate.0 floor ≡ false) × (c.in-Some.bucket ≡ bucket_index c.args.rate.0)
found c = high_of _ _ (sym c.in-Some.is ∙ c.bucket_index_for_rate.ensures)

-- where the search ends in a gap
gap : (c : In-Err) → Ends (board_of c.args.on) (board_lawful c.args.on) (record { state = c.args.state; table = c.args.pending.now; id = c.args.id.now }) (Err c.in-Err.at)
gap c = told _ _ _ _ _ c.record_size-size.ensures.value c.find.ensures c.in-Err.is

-- and the table is not full
full_at : (c : After-capacity) → c.capacity.result ≡ pending_capacity (board_of c.args.on) c.args.pending.now
full_at c = c.capacity.ensures ∙ ap (λ (n : ℕ). capacity n pending_most c.args.pending.now) c.record_size-size.ensures.value

room : (k : Board) (used : ℕ) {cap : ℕ} (xs : List ℕ) → sound_pending k used xs ≡ true → cap ≡ pending_capacity k xs → (used ≡ cap → ⊥)
    → (used < pending_capacity k xs) × (used * k.table.size + k.table.size ≤ length xs)
room k used {cap} xs s e f =
    let less : used < pending_capacity k xs = omega (arith, e, pending_within k used xs s, f) in
    (less, one_more k.table.size used xs less)

pub returns-then-not-judge_pending : goal.returns-then-not-judge_pending
returns-then-not-judge_pending c = enter_damaged (board (goal.at.returns-then-not-judge_pending c).Start) (board_lawful c.args.on) (given (goal.at.returns-then-not-judge_pending c).Start) c.args.rate c.args.height (sym c.judge_pending.ensures ∙ c.if-not-judge_pending.true)

pub find-requires : goal.find-requires
find-requires c =
    let k = board (goal.at.find-requires c).Start in
    let g = given (goal.at.find-requires c).Start in let both = searchable _ _ pending_most g.state.pending g.table g.id c.record_size-size.ensures.value (omega (arith, c.record_size-size.ensures.lower_bound)) (pending_table k g.state.pending g.table (sound (goal.at.find-requires c).Else-not-judge_pending)) (search rules) in record { le_size = both.0; table_value = both.1.0 }

pub returns-in_default : goal.returns-in_default
returns-in_default c =
    enter_low (board (goal.at.returns-in_default c).Start) (board_lawful c.args.on) (given (goal.at.returns-in_default c).Start) (sound (goal.at.returns-in_default c).Else-not-judge_pending) c.args.rate c.args.height (low_of _ (sym c.in_default.is ∙ c.bucket_index_for_rate.ensures))

pub returns-then-used-capacity : goal.returns-then-used-capacity
returns-then-used-capacity c =
    enter_full (board_of c.args.on) (board_lawful c.args.on) (given (goal.at.returns-then-used-capacity c).Start) (sound (goal.at.returns-then-used-capacity c).Else-not-judge_pending) c.args.rate c.args.height (found (goal.at.returns-then-used-capacity c).In-Some).0 c.in-Err.at (gap (goal.at.returns-then-used-capacity c).In-Err) (c.if-used-capacity.true ∙ full_at (goal.at.returns-then-used-capacity c).After-capacity)

pub overflow_cast-bucket : goal.overflow_cast-bucket
overflow_cast-bucket c = omega (arith, (found (goal.at.overflow_cast-bucket c).In-Some).1, bucket_lt c.args.rate.0)

pub insert_pending-requires : goal.insert_pending-requires
insert_pending-requires c = record {
  at_le_used = (
    gap_used (board_of c.args.on).table.size c.args.state.pending c.in-Err.at c.args.pending.now c.args.id.now (gap (goal.at.insert_pending-requires c).In-Err),
    (room _ _ _ (sound (goal.at.insert_pending-requires c).Else-not-judge_pending) (full_at (goal.at.insert_pending-requires c).After-capacity) c.if-used-capacity.false).1,
  );
}

pub returns-in_default-find : goal.returns-in_default-find
returns-in_default-find c =
    enter_there (board (goal.at.returns-in_default-find c).Start) (board_lawful c.args.on) (given (goal.at.returns-in_default-find c).Start) (sound (goal.at.returns-in_default-find c).Else-not-judge_pending) c.args.rate c.args.height (found (goal.at.returns-in_default-find c).In-Some).0 c.in_default-find.field-0 (told _ _ _ _ _ c.record_size-size.ensures.value c.find.ensures c.in_default-find.is)

pub returns : goal.returns
returns c =
    enter_done (board (goal.at.returns c).Start) (board_lawful c.args.on) (given (goal.at.returns c).Start) (sound (goal.at.returns c).Else-not-judge_pending) c.args.rate c.args.height (found (goal.at.returns c).In-Some).0 c.in-Err.at (gap (goal.at.returns c).In-Err) (room _ _ _ (sound (goal.at.returns c).Else-not-judge_pending) (full_at (goal.at.returns c).After-capacity) c.if-used-capacity.false).0
    c.insert_pending.new.table (are_bytes_lem c.insert_pending.new.table (λ i. omega (arith, c.type_inv.pending i))) (search rules) (search rules)
    c.in-Some.bucket (found (goal.at.returns c).In-Some).1 c.insert_pending.ensures c.with_pending.result c.with_pending.ensures

pub overflow_add-used : goal.overflow_add-used
overflow_add-used c = omega (arith, room _ _ _ (sound (goal.at.overflow_add-used c).Else-not-judge_pending) (full_at (goal.at.overflow_add-used c).After-capacity) c.if-used-capacity.false)
