-- `judge::tables::judge_confirmed` meets its contract. Assumes nothing.
use mathlib.Core.Path.{◌≡◌, sym, ◌∙◌}
use mathlib.Core.Bool.{true}
use native.Mathlib.Omega.{arith}
use Rattle.rules.specs.Board.{confirmed_size, confirmed_most}
use Rattle.rules.specs.Memory.{sound_confirmed}
use Rattle.judge.proofs.Records.{roomy, table_is, roomy_told}
use Rattle.judge.proofs.tables.judge_confirmed.Goals as goal
use Rattle.judge.proofs.tables.judge_confirmed.Goals.{Then-room_and_zeros}

first : (t : Then-room_and_zeros) → roomy confirmed_size confirmed_most t.args.used t.args.table.now ≡ true
first t = sym t.room_and_zeros.ensures ∙ t.if-room_and_zeros.true

pub returns-then-room_and_zeros : goal.returns-then-room_and_zeros
unfolding sound_confirmed
returns-then-room_and_zeros c =
    sym (table_is confirmed_size confirmed_most c.args.used c.args.table.now ∙ rw (first (goal.at.returns-then-room_and_zeros c).Then-room_and_zeros, c.ids_rise.ensures))

pub returns-else-room_and_zeros : goal.returns-else-room_and_zeros
unfolding sound_confirmed
returns-else-room_and_zeros c =
    sym (table_is confirmed_size confirmed_most c.args.used c.args.table.now ∙ rw (sym c.room_and_zeros.ensures ∙ c.if-room_and_zeros.false) (sym c.if-room_and_zeros.false))

pub ids_rise-requires : goal.ids_rise-requires
ids_rise-requires c = omega (arith, roomy_told confirmed_size confirmed_most c.args.used c.args.table.now (first (goal.at.ids_rise-requires c).Then-room_and_zeros))
