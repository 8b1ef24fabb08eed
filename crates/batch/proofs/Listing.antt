-- A list of ids in bytes, worked through from the front, chunk by chunk: what is left of it is the next id and the rest, or none. Assumes nothing.
use mathlib.Core.Path.{◌≡◌, ap₂}
use mathlib.Core.List.{List, [], ◌∷◌, ◌++◌}
use Prim.Native.Nat.{ℕ, suc, ◌/◌, ◌<◌}
use native.Mathlib.Omega.{arith}
use lib.ListN.{length, length-append}
use Rattle.std.proofs.lemmas.List.{take_at, drop_at}
use Rattle.rules.specs.Records.{records}
use Rattle.rules.specs.Calls.{ids_of}

pub ids_more : (i xs : List ℕ) → length i ≡ 32 → ids_of (i ++ xs) ≡ i ∷ ids_of xs
unfolding ids_of records
ids_more i xs h =
    let n : length (i ++ xs) / 32 ≡ suc (length xs / 32) = omega (arith, length-append i xs) in
    rw n (ap₂ (λ (j ys : List ℕ). j ∷ records 32 (length xs / 32) ys) (take_at i xs 32 h) (drop_at i xs 32 h))

pub ids_none : (xs : List ℕ) → length xs < 32 → ids_of xs ≡ []
unfolding ids_of records
ids_none xs h = let n : length xs / 32 ≡ 0 = omega arith in rw n
