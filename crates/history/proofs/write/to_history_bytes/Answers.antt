-- `history::write::to_history_bytes` meets its contract: damaged memory is refused, too short an output with the needed length; else the file is put first.
-- Assumes nothing.
use mathlib.Core.Path.{◌≡◌, sym, ap, ◌∙◌}
use mathlib.Core.Bool.{true}
use mathlib.Core.List.{List}
use Prim.Native.Nat.{ℕ}
use native.Mathlib.Omega.{arith}
use Rattle.kinds.specs.Answers.{done}
use Rattle.rules.specs.Calls.{outcome}
use Rattle.rules.specs.Board.{board_of}
use Rattle.rules.specs.Memory.{lent, sound}
use Rattle.rules.proofs.Bytes.{are_bytes_lem}
use Rattle.rules.proofs.Boards.{board_lawful}
use Rattle.format.specs.File.{version_told}
use Rattle.format.specs.Calls.{output}
use Rattle.history.proofs.Same.{same_records}
use Rattle.history.proofs.Put.{facts, write_damaged, write_short, write_done}
use Rattle.history.proofs.write.to_history_bytes.Goals as goal
use Rattle.history.proofs.write.to_history_bytes.Goals.{Else-not-judge_memory}

judged : (j : Else-not-judge_memory) → sound (board_of j.args.on) j.args.s (lent j.args.confirmed.now j.args.resolved.now j.args.pending.now j.args.recent.now) ≡ true
judged j = sym j.judge_memory.ensures ∙ j.if-not-judge_memory.false

pub returns-then-not-judge_memory : goal.returns-then-not-judge_memory
returns-then-not-judge_memory c = write_damaged _ _ _ _ _ (sym c.judge_memory.ensures ∙ c.if-not-judge_memory.true)

pub history_len-n-requires : goal.history_len-n-requires
history_len-n-requires c = let f = facts _ _ _ (judged (goal.at.history_len-n-requires c).Else-not-judge_memory) in (f.pending_few, f.recent_few)

pub returns-then-out-n : goal.returns-then-out-n
returns-then-out-n c =
    let h = judged (goal.at.returns-then-out-n c).Else-not-judge_memory in
    write_short (version_told c.args.version) (board_of c.args.on) (board_lawful c.args.on) (same_records c.args.version c.args.on) c.args.s _ (facts _ _ _ h)
    (are_bytes_lem c.args.pending.now (λ i. (c.type_inv.pending i).fits))
    (are_bytes_lem c.args.recent.now (λ i. (c.type_inv.recent i).fits))
    h c.args.out.now c.history_len-n.result c.history_len-n.ensures (omega arith)

pub returns : goal.returns
returns c =
    let h = judged (goal.at.returns c).Else-not-judge_memory in
    ap (λ (o : List ℕ). outcome done c.args.s (output c.history_len-n.result o)) c.encode.ensures
    ∙ write_done (version_told c.args.version) (board_of c.args.on) (board_lawful c.args.on) (same_records c.args.version c.args.on) c.args.s _ (facts _ _ _ h)
    (are_bytes_lem c.args.pending.now (λ i. (c.type_inv.pending i).fits))
    (are_bytes_lem c.args.recent.now (λ i. (c.type_inv.recent i).fits))
    h c.args.out.now c.history_len-n.result c.history_len-n.ensures (omega arith)
