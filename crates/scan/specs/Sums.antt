-- The scan's record, as the rules' sums on the way down. Assumes nothing.
use Rattle.std.specs.Prelude.{option_map}
use Rattle.rules.specs.Ladder.{ladder}
use Rattle.rules.specs.Estimate.{Sums}
use Rattle.scan.specs.declared.Scan.{Scan}

-- the sums, and the rate so far
unfoldable pub shown : Scan → Sums
shown s = record { confirmed = s.confirmed; resolved = s.resolved; rate = option_map ladder s.best }
