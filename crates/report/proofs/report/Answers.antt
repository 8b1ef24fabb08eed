-- What is put are the file's pieces, and there is room for them.
use Rattle.std.proofs.Common.{◌≡◌, length, rules}
use lib.Ieee.{of_bits}
use Rattle.kinds.specs.Answers.{state_or}
use Rattle.rules.specs.Estimator.{fresh}
use Rattle.rules.specs.Memory.{state_of}
use Rattle.rules.proofs.Bytes.{are_bytes_lem}
use Rattle.print.proofs.Pieces.{put_on}
use Rattle.report.proofs.Short.{answered_short, told_short}
use Rattle.report.proofs.Reported.{all_put, put_too_long, told_pieces}
use Rattle.report.proofs.report.Goals as goal

pub returns-then-longest-file : goal.returns-then-longest-file
returns-then-longest-file c =
    let a = c.args in
    let n : length a.out.now ≡ 2048 = search rules in
    let p = put_too_long _ a.chain a.on a.file.now a.out.now n c.if-longest-file.true _ _ (put_on _ c.put_refused.ensures.written c.new-shown.ensures.start) in
    record { prefix_len = p.0; result_after = p.1 }

pub returns : goal.returns
unfolding of_bits
returns c =
    let a = c.args in
    let n : length a.out.now ≡ 2048 = search rules in
    let b = are_bytes_lem a.file.now (λ i. (c.type_inv.file i).fits) in
    let r = c.from_history_bytes-reading in
    let s = state_or (state_of fresh) r.result in
    let p =
    all_put _ a.chain a.on a.file.now a.out.now n _
    (told_pieces a.chain a.on a.file.now b a.longest c.if-longest-file.false a.pending.now a.recent.now r.result s _ r.ensures)
    (told_short a.chain a.on r.result s _ (answered_short s _ _ a.on)) _ _ (put_on _ c.tell.ensures.written c.new-shown.ensures.start)
    in
    record { prefix_len = p.0; result_after = p.1 }
