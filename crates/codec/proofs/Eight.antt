-- The library's number of eight bytes is the rules'. Assumes nothing.
use mathlib.Core.Path.{◌≡◌, sym, ap, ◌∙◌}
use mathlib.Core.List.{List}
use Prim.Native.Nat.{ℕ, ◌+◌, ◌^◌, ◌≤◌, ◌<◌}
use native.Mathlib.Decide.{dec_le}
use native.Mathlib.Omega.{arith}
use lib.Seq.{get_or-take, get_or-drop, length-take-le}
use lib.ListN.{length, get_or, take, drop, length-take, length-drop, get_or-eq_default}
use Rattle.std.specs.Int.{w64, from_le_bytes}
use Rattle.std.proofs.lemmas.Nat.{le_bytes_8}
use Rattle.rules.specs.Bytes.{le}
use Rattle.rules.proofs.Bytes.{le_bytes}
use Rattle.mem.specs.Le.{le_at}
use Rattle.mem.proofs.Laws.{le_bytes_are}

-- a part of bytes has bytes only
part_small : (s : List ℕ) (at n i : ℕ) → ((k : ℕ) → get_or s k 0 < 256) → get_or (take n (drop at s)) i 0 < 256
part_small s at n i h = go (dec_le n i)
  where
    go : Dec (n ≤ i) → get_or (take n (drop at s)) i 0 < 256
    go (yes l) = let e : length (take n (drop at s)) ≤ i = omega (arith, length-take n (drop at s)) in rw (get_or-eq_default (take n (drop at s)) 0 e) (omega arith)
    go (no l) = rw (get_or-take n (drop at s) i 0 (omega arith), get_or-drop at s i 0) (h (at + i))

pub number_at : (s : List ℕ) (at v : ℕ) → at + 8 ≤ length s → ((k : ℕ) → get_or s k 0 < 256) → v < 256 ^ 8 → v ≡ from_le_bytes w64 (take 8 (drop at s)) → v ≡ le_at 8 s at
number_at s at v n b f e =
    let bs : List ℕ = take 8 (drop at s) in
    let l : length bs ≡ 8 = length-take-le 8 (drop at s) (simp length-drop (omega arith)) in
    sym (le_bytes 8 v f) ∙ ap le (sym (le_bytes_are 7 v) ∙ le_bytes_8 bs v l (λ i. part_small s at 8 i b) e)
