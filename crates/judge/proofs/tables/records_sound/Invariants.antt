-- `judge::tables::records_sound` meets its contract. The invariant: `Climb` of the ids, and whether all fields are in range is whether those of the records from `i`
-- on are. Assumes nothing.
use mathlib.Core.Path.{◌≡◌}
use lib.ListN.{drop}
use Rattle.rules.specs.Records.{records}
use Rattle.ids.proofs.Climb.{Climb}
use Rattle.judge.proofs.Records.{fine}
use Rattle.judge.proofs.tables.records_sound.Given as goal

abbrev pub invariant-loop-i : goal.invariant-loop-i
invariant-loop-i l = Climb l.size l.used l.table l.last l.i × (fine (records l.size l.used l.table) ≡ fine (drop l.i (records l.size l.used l.table)))
