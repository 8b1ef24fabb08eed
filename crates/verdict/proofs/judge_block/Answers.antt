-- `verdict::judge_block` meets its contract: each of its answers is the definition's, by the laws of `Judging`. Assumes nothing.
use mathlib.Core.Path.{◌≡◌, sym, ◌∙◌}
use mathlib.Core.Bool.{true}
use native.Mathlib.Omega.{arith}
use lib.Dec.{leb}
use Rattle.rules.specs.Board.{Board, board_of}
use Rattle.rules.specs.Memory.{lent, confirmed_capacity, sound}
use Rattle.verdict.proofs.Judging.{Block, wanted, pending_sound, recent_sound, recent_within, answer_damaged, answer_list, answer_short, answer_full, answer_done}
use Rattle.rules.proofs.Boards.{board_lawful}
use Rattle.rules.proofs.Bytes.{are_bytes_lem}
use Rattle.rules.proofs.Sound.{view_well}
use Rattle.room.proofs.Judging.{room_is}
use Rattle.verdict.proofs.judge_block.Goals as goal
use Rattle.verdict.proofs.judge_block.Goals.{After-finds_room, Else-not-judge_memory, Start}

abbrev given : Start → Block
given s =
    record { state = s.args.state; lent = lent s.args.confirmed.now s.args.resolved.now s.args.pending.now s.args.recent.now; ids = s.args.ids.now; height = s.args.height }

abbrev board : Start → Board
board s = board_of s.args.on

-- past the first test the memory is sound
is_sound : (c : Else-not-judge_memory) → sound (board (goal.at.Else-not-judge_memory c).Start) (given (goal.at.Else-not-judge_memory c).Start).state (given (goal.at.Else-not-judge_memory c).Start).lent ≡ true
is_sound c = sym c.judge_memory.ensures ∙ c.if-not-judge_memory.false

-- what it answers, of the definition's number
found : (c : After-finds_room) → c.finds_room.result ≡ leb (wanted (board (goal.at.After-finds_room c).Start) (given (goal.at.After-finds_room c).Start)) (confirmed_capacity (given (goal.at.After-finds_room c).Start).lent.recent)
found c =
    let well = view_well (board (goal.at.After-finds_room c).Start) (board_lawful c.args.on) (given (goal.at.After-finds_room c).Start).state (given (goal.at.After-finds_room c).Start).lent (is_sound (goal.at.After-finds_room c).Else-not-judge_memory)
    (are_bytes_lem c.args.pending.now (λ i. (c.type_inv.pending i).fits)) (are_bytes_lem c.args.recent.now (λ i. (c.type_inv.recent i).fits)) in
    room_is (board (goal.at.After-finds_room c).Start) (given (goal.at.After-finds_room c).Start).state (given (goal.at.After-finds_room c).Start).lent (given (goal.at.After-finds_room c).Start).ids (given (goal.at.After-finds_room c).Start).height _ well c.finds_room.ensures

pub returns-then-not-judge_memory : goal.returns-then-not-judge_memory
returns-then-not-judge_memory c =
    answer_damaged (board (goal.at.returns-then-not-judge_memory c).Start) (given (goal.at.returns-then-not-judge_memory c).Start) (sym c.judge_memory.ensures ∙ c.if-not-judge_memory.true)

pub returns-then-ids-ne0 : goal.returns-then-ids-ne0
returns-then-ids-ne0 c = answer_list (board (goal.at.returns-then-ids-ne0 c).Start) (given (goal.at.returns-then-ids-ne0 c).Start) (is_sound (goal.at.returns-then-ids-ne0 c).Else-not-judge_memory) c.if-ids-ne0.true

pub overflow_sub-free : goal.overflow_sub-free
overflow_sub-free c =
    omega (arith, c.capacity.ensures, recent_within (board (goal.at.overflow_sub-free c).Start) (given (goal.at.overflow_sub-free c).Start).state (given (goal.at.overflow_sub-free c).Start).lent (is_sound (goal.at.overflow_sub-free c).Else-not-judge_memory))

-- a list that is no longer than the free places
pub returns-then-ids-free : goal.returns-then-ids-free
returns-then-ids-free c =
    answer_short (board (goal.at.returns-then-ids-free c).Start) (given (goal.at.returns-then-ids-free c).Start) (is_sound (goal.at.returns-then-ids-free c).Else-not-judge_memory) c.if-ids-ne0.false (omega (arith, c.gap-skipped.ensures)) (omega (arith, c.capacity.ensures, c.if-ids-free.true, recent_within (board (goal.at.returns-then-ids-free c).Start) (given (goal.at.returns-then-ids-free c).Start).state (given (goal.at.returns-then-ids-free c).Start).lent (is_sound (goal.at.returns-then-ids-free c).Else-not-judge_memory)))

pub finds_room-requires : goal.finds_room-requires
finds_room-requires c = record { pending_value = pending_sound (board (goal.at.finds_room-requires c).Start) (given (goal.at.finds_room-requires c).Start).state (given (goal.at.finds_room-requires c).Start).lent (is_sound (goal.at.finds_room-requires c).Else-not-judge_memory); recent_value = recent_sound (board (goal.at.finds_room-requires c).Start) (given (goal.at.finds_room-requires c).Start).state (given (goal.at.finds_room-requires c).Start).lent (is_sound (goal.at.finds_room-requires c).Else-not-judge_memory) }

pub returns-then-not-finds_room : goal.returns-then-not-finds_room
returns-then-not-finds_room c =
    answer_full (board (goal.at.returns-then-not-finds_room c).Start) (given (goal.at.returns-then-not-finds_room c).Start) (is_sound (goal.at.returns-then-not-finds_room c).Else-not-judge_memory) c.if-ids-ne0.false (omega (arith, c.gap-skipped.ensures)) (sym (found (goal.at.returns-then-not-finds_room c).After-finds_room) ∙ c.if-not-finds_room.true)

pub returns : goal.returns
returns c =
    answer_done (board (goal.at.returns c).Start) (given (goal.at.returns c).Start) (is_sound (goal.at.returns c).Else-not-judge_memory) c.if-ids-ne0.false (omega (arith, c.gap-skipped.ensures)) (sym (found (goal.at.returns c).After-finds_room) ∙ c.if-not-finds_room.false)
