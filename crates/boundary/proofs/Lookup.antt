-- The number that the lookup answers tells a bucket from none: every bucket is below 142. Assumes nothing.
use mathlib.Core.Path.{◌≡◌, refl, ap}
use Rattle.std.specs.Prelude.{Option, Some}
use Prim.Native.Nat.{ℕ}
use native.Mathlib.Omega.{arith}
use Rattle.rules.specs.Ladder.{bucket_for}
use Rattle.rules.proofs.Rates.{LookedUp, under_all, in_bucket, looked_up}
use Rattle.boundary.specs.Calls.{bucket_number, izr_bucket_index_for_rate, LookupPromise}

told_apart : {x y : ℕ} {o p : Option ℕ} → LookedUp x o → LookedUp y p → bucket_number o ≡ bucket_number p → o ≡ p
told_apart (under_all f) (under_all g) e = refl
told_apart (under_all f) (in_bucket b l m n) e = absurd (omega arith)
told_apart (in_bucket b l m n) (under_all g) e = absurd (omega arith)
told_apart (in_bucket b l m n) (in_bucket c r s t) e = ap Some e

-- the number of what the lookup answers
pub numbered : (x : ℕ) (o : Option ℕ) → o ≡ bucket_for x → bucket_number o ≡ izr_bucket_index_for_rate x
unfolding izr_bucket_index_for_rate
numbered x o e = ap bucket_number e

pub lookup : LookupPromise
unfolding LookupPromise izr_bucket_index_for_rate
lookup x y e = told_apart (looked_up x) (looked_up y) e
