-- `ladder::bucket_index_for_rate` meets its contract. Assumes nothing.
use native.Mathlib.Omega.{arith}
use Rattle.rules.proofs.Rates.{none_below, some_from}
use Rattle.ladder.proofs.bucket_index_for_rate.Goals as goal

pub returns-then-r-lt-MIN_FEE_RATE_SAT_PER_KVB : goal.returns-then-r-lt-MIN_FEE_RATE_SAT_PER_KVB
returns-then-r-lt-MIN_FEE_RATE_SAT_PER_KVB c = none_below _ (omega arith)

pub returns : goal.returns
returns c = some_from _ _ (omega arith) c.last_not_above.ensures
