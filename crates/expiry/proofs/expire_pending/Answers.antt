-- `expiry::expire_pending` meets its contract: what is raised and then dropped is one pass over the records as they were. Assumes nothing.
use mathlib.Core.Path.{sym, ap, subst, ◌∙◌}
use mathlib.Core.List.{List, map}
use Prim.Native.Nat.{ℕ, ◌*◌, ◌≤◌}
use lib.ListN.{length}
use Rattle.rules.specs.Lists.{keep}
use Rattle.rules.specs.Records.{records, laid}
use Rattle.rules.specs.Board.{board_of}
use Rattle.expiry.specs.Fields.{raised, waiting}
use Rattle.expiry.proofs.Fields.{length_raised}
use Rattle.expiry.proofs.Changing.{changed_kept}
use Rattle.expiry.proofs.expire_pending.Goals as goal
use Rattle.expiry.proofs.expire_pending.Goals.{After-record_size-size}

-- the room for the records, in their bytes as the code has them
room : (n : After-record_size-size) → n.args.used * n.record_size-size.result ≤ length n.args.pending.now
room n = subst (λ (m : ℕ). n.args.used * m ≤ length n.args.pending.now) (sym n.record_size-size.ensures.value) n.requires.places_of_counts_in_bounds.1

pub returns : goal.returns
returns c =
    let kept : ℕ → List (List ℕ) = λ m. keep waiting (map (raised (board_of c.args.on).width c.args.h.0) (records m c.args.used c.args.pending.now)) in
    let q = changed_kept (raised (board_of c.args.on).width c.args.h.0) waiting c.record_size-size.result c.args.used c.args.pending.now c.expire_all.new.pending c.drop_resolved.new.table c.drop_resolved.result
    (length_raised c.record_size-size.result (board_of c.args.on).width c.args.h.0) (room (goal.at.returns c).After-record_size-size)
    (c.expire_all.ensures.pending_after ∙ ap (λ (m : ℕ). laid m c.args.used (map (raised (board_of c.args.on).width c.args.h.0) (records m c.args.used c.args.pending.now)) c.args.pending.now) (sym c.record_size-size.ensures.value)) c.drop_resolved.ensures.value c.drop_resolved.ensures.table_after in record { resolved_after = c.expire_all.ensures.resolved_after; value = q.0 ∙ ap (λ (m : ℕ). length (kept m)) c.record_size-size.ensures.value; pending_after = q.1 ∙ ap (λ (m : ℕ). laid m c.args.used (kept m) c.args.pending.now) c.record_size-size.ensures.value }
