-- `expiry::expire_one` meets its contract: what the record's fields and its wait give is one step of the rules' expiry, and the record raised. Assumes nothing.
use mathlib.Core.Path.{◌≡◌, sym, ap, ap₂, subst, ◌∙◌}
use mathlib.Core.List.{List, [], ◌∷◌}
use Prim.Native.Nat.{ℕ, ◌-◌, ◌*◌, ◌/◌, min, ◌≤◌}
use native.Mathlib.Omega.{arith}
use lib.ListN.{length, get_or, set}
use lib.Seq.{set-get_or}
use Rattle.rules.specs.Counts.{columns}
use Rattle.rules.specs.Records.{records, laid}
use Rattle.rules.specs.Board.{Pending, board_of, pending_of}
use Rattle.rules.specs.Estimator.{expire_targets}
use Rattle.rules.proofs.Boards.{read_at}
use Rattle.table.specs.Fields.{with_field}
use Rattle.table.proofs.Laid.{laid_same}
use Rattle.expiry.specs.Fields.{through_at, reach}
use Rattle.expiry.proofs.Expiry.{one_expired}
use Rattle.expiry.proofs.Fields.{raised_yes, raised_no}
use Rattle.expiry.proofs.expire_one.Goals as goal
use Rattle.expiry.proofs.expire_one.Goals.{After-gain_columns, After-outwaited-reach, After-pending_at-r, After-record_size-size}

abbrev size_of : After-pending_at-r → ℕ
size_of p = p.record_size-size.result

size_is : (p : After-pending_at-r) → size_of p ≡ (board_of p.args.on).table.size
size_is p = p.record_size-size.ensures.value

abbrev at_size : After-pending_at-r → ℕ → List ℕ
at_size p m = get_or (records m p.args.used p.args.pending.now) p.args.i []

abbrev rec : After-pending_at-r → List ℕ
rec p = at_size p (board_of p.args.on).table.size

-- what the code reads is the record as its board reads it
read_is_that : (p : After-pending_at-r) → pending_of (at_size p (size_of p)) ≡ (board_of p.args.on).table.read (rec p)
read_is_that p = read_at p.args.on (size_of p) p.args.used p.args.i p.args.pending.now (size_is p)

-- resolved-through, and what the record has outwaited
through_is : (p : After-pending_at-r) → p.pending_at-r.result.through ≡ (pending_of (rec p)).through
through_is p = p.pending_at-r.ensures.through_value ∙ ap (λ (m : ℕ). (pending_of (at_size p m)).through) (size_is p)

reach_is : (n : After-outwaited-reach) → n.outwaited-reach.result ≡ reach (board_of n.args.on).width n.args.h.0 (rec (goal.at.After-outwaited-reach n).After-pending_at-r)
reach_is n =
    n.outwaited-reach.ensures
    ∙ ap₂ (λ (e d : ℕ). min columns ((n.args.h.0 - e) / d)) (n.pending_at-r.ensures.result_value ∙ ap (λ (m : ℕ). (pending_of (at_size (goal.at.After-outwaited-reach n).After-pending_at-r m)).entry) (size_is (goal.at.After-outwaited-reach n).After-pending_at-r)) n.width_of-width.ensures.result_value

-- the count
counted : (g : After-gain_columns) → g.gain_columns.new.counts ≡ expire_targets (board_of g.args.on) g.args.h.0 ((board_of g.args.on).table.read (rec (goal.at.After-gain_columns g).After-pending_at-r) ∷ []) g.args.resolved.now
counted g =
    let e = read_is_that (goal.at.After-gain_columns g).After-pending_at-r in
    one_expired (board_of g.args.on) g.args.h.0 ((board_of g.args.on).table.read (rec (goal.at.After-gain_columns g).After-pending_at-r)) g.pending_at-r.result.bucket g.pending_at-r.result.through g.outwaited-reach.result g.args.resolved.now g.gain_columns.new.counts
    (g.pending_at-r.ensures.bucket_value ∙ ap (λ (q : Pending). q.bucket) e) (g.pending_at-r.ensures.through_value ∙ ap (λ (q : Pending). q.through) e)
    (g.outwaited-reach.ensures ∙ ap₂ (λ (y d : ℕ). min columns ((g.args.h.0 - y) / d)) (g.pending_at-r.ensures.result_value ∙ ap (λ (q : Pending). q.entry) e) g.width_of-width.ensures.result_value) g.gain_columns.ensures

room : (z : After-record_size-size) → z.args.used * z.record_size-size.result ≤ length z.args.pending.now
room z = subst (λ (m : ℕ). z.args.used * m ≤ length z.args.pending.now) (sym z.record_size-size.ensures.value) z.requires.places_of_counts_in_bounds.2

-- where it is raised, or not
pub returns-then-r-reach : goal.returns-then-r-reach
returns-then-r-reach c = record {
  resolved_after = counted (goal.at.returns-then-r-reach c).After-gain_columns;
  pending_after = c.put_field.ensures
      ∙ ap (λ (m : ℕ). laid m c.args.used (set (records m c.args.used c.args.pending.now) c.args.i (with_field through_at c.outwaited-reach.result (at_size (goal.at.returns-then-r-reach c).After-pending_at-r m))) c.args.pending.now) (size_is (goal.at.returns-then-r-reach c).After-pending_at-r)
      ∙ ap (λ (w : List ℕ). laid (board_of c.args.on).table.size c.args.used (set (records (board_of c.args.on).table.size c.args.used c.args.pending.now) c.args.i w) c.args.pending.now)
      (raised_yes (board_of c.args.on).width c.args.h.0 c.pending_at-r.result.through c.outwaited-reach.result (rec (goal.at.returns-then-r-reach c).After-pending_at-r) (through_is (goal.at.returns-then-r-reach c).After-pending_at-r) (reach_is (goal.at.returns-then-r-reach c).After-outwaited-reach) (omega (arith, c.if-r-reach.true)));
}

pub returns-else-r-reach : goal.returns-else-r-reach
returns-else-r-reach c =
    let size = (board_of c.args.on).table.size in
    let rs = records size c.args.used c.args.pending.now in record {
      resolved_after = counted (goal.at.returns-else-r-reach c).After-gain_columns;
      pending_after = sym
          (ap (λ (w : List ℕ). laid size c.args.used (set rs c.args.i w) c.args.pending.now) (sym (raised_no (board_of c.args.on).width c.args.h.0 _ _ (rec (goal.at.returns-else-r-reach c).After-pending_at-r) (through_is (goal.at.returns-else-r-reach c).After-pending_at-r) (reach_is (goal.at.returns-else-r-reach c).After-outwaited-reach) c.if-r-reach.false))
          ∙ ap (λ (l : List (List ℕ)). laid size c.args.used l c.args.pending.now) (set-get_or rs c.args.i [])
          ∙ laid_same size c.args.used c.args.pending.now c.requires.places_of_counts_in_bounds.2);
    }
