-- The sums from bucket b on, and the last bucket that passed. Assumes nothing.
use Rattle.std.specs.Prelude.{◌≡◌, ◌<◌, IfSome}
use Rattle.rules.specs.Ladder.{buckets}
use Rattle.scan.specs.Sums.{shown}
use Rattle.scan.proofs.Scanning.{sums_of}
use Rattle.scan.proofs.rate_in_column.Given as goal

abbrev pub invariant-loop-b : goal.invariant-loop-b
invariant-loop-b l = record {
  sums : shown l.s ≡ sums_of l.c l.confirmed l.resolved l.b;
  best : IfSome l.s.best (λ n. n < buckets);
}
