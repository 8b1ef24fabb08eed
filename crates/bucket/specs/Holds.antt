-- A slice holds the counts of bucket b: there is such a bucket, and each of the 3,550 counts has a place. Assumes nothing.
use Rattle.std.specs.Prelude.{ℕ, ◌≤◌, ◌<◌, List, Float, length}
use Rattle.rules.specs.Ladder.{buckets}
use Rattle.rules.specs.Counts.{places_of_counts}

abbrev pub Holds : List Float → ℕ → Type 0
Holds counts b = (b < buckets) × (places_of_counts ≤ length counts)

-- both kinds
abbrev pub BothHold : List Float → List Float → ℕ → Type 0
BothHold confirmed resolved b = (b < buckets) × (places_of_counts ≤ length confirmed) × (places_of_counts ≤ length resolved)
