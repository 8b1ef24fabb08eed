-- `room::skipped::lasts` meets its contract. Assumes nothing.
use mathlib.Core.Path.{◌≡◌, ap, ap₂, ◌∙◌}
use mathlib.Core.List.{[]}
use Prim.Native.Nat.{ℕ, ◌-◌, ◌/◌, min}
use lib.ListN.{get_or}
use Rattle.rules.specs.Counts.{columns}
use Rattle.rules.specs.Records.{records}
use Rattle.rules.specs.Board.{Pending, board_of, pending_of}
use Rattle.rules.specs.Estimator.{outwaited}
use Rattle.rules.proofs.Boards.{read_at}
use Rattle.room.proofs.Lasting.{lasts_none, lasts_some}
use Rattle.room.proofs.skipped.lasts.Goals as goal
use Rattle.room.proofs.skipped.lasts.Goals.{After-outwaited-reach}

abbrev rec : After-outwaited-reach → Pending
rec n = (board_of n.args.on).table.read (get_or (records (board_of n.args.on).table.size n.args.used n.args.pending.now) n.args.i [])

read_is_that : (n : After-outwaited-reach) → pending_of (get_or (records n.record_size-size.result n.args.used n.args.pending.now) n.args.i []) ≡ rec n
read_is_that n = read_at n.args.on n.record_size-size.result n.args.used n.args.i n.args.pending.now n.record_size-size.ensures.value

through_is : (n : After-outwaited-reach) → n.pending_at-r.result.through ≡ (rec n).through
through_is n = n.pending_at-r.ensures.through_value ∙ ap (λ (p : Pending). p.through) (read_is_that n)

-- the last skipped height
abbrev height : After-outwaited-reach → ℕ
height n = n.in-Some.h.0

reach_is : (n : After-outwaited-reach) → n.outwaited-reach.result ≡ outwaited (board_of n.args.on) (height n) (rec n)
reach_is n =
    n.outwaited-reach.ensures
    ∙ ap₂ (λ (e d : ℕ). min columns ((height n - e) / d)) (n.pending_at-r.ensures.result_value ∙ ap (λ (p : Pending). p.entry) (read_is_that n)) n.width_of-width.ensures.result_value

pub returns-in_default : goal.returns-in_default
returns-in_default c = lasts_none _ _ _ c.in_default.is

pub returns : goal.returns
returns c =
    rw c.max.ensures (lasts_some _ (board_of c.args.on) (rec (goal.at.returns c).After-outwaited-reach) _ _ c.in-Some.is (through_is (goal.at.returns c).After-outwaited-reach) (reach_is (goal.at.returns c).After-outwaited-reach))
