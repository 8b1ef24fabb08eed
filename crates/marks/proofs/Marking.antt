-- What marking asks for, of a table that is sound and of marks that are none. Assumes nothing.
use mathlib.Core.Path.{◌≡◌, refl, ap, ◌∙◌}
use mathlib.Core.Bool.{true}
use mathlib.Core.List.{List, ◌∷◌, map}
use Prim.Native.Nat.{ℕ, zero, suc, ◌*◌, ◌≤◌}
use native.Mathlib.Nat.{not-suc-le-zero, le_of_suc-le-suc}
use native.Mathlib.Omega.{arith}
use lib.ListN.{length, take, replicate, length-replicate}
use Rattle.rules.specs.Ids.{rising}
use Rattle.rules.specs.Records.{records, id_of, sound_table}
use Rattle.rules.specs.Board.{pending_size, pending_most}
use Rattle.table.proofs.Sound.{sound_told, sound_room}

take_zeros : (n m : ℕ) → n ≤ m → take {A = ℕ} n (replicate m 0) ≡ replicate n 0
take_zeros zero m h = refl
take_zeros (suc n) zero h = absurd (not-suc-le-zero h)
take_zeros (suc n) (suc m) h = ap (λ (l : List ℕ). 0 ∷ l) (take_zeros n m (le_of_suc-le-suc h))

-- there is one for each record of a sound table
pub marks_enough : (m used : ℕ) (xs ms : List ℕ) → sound_table m pending_most used xs ≡ true → ms ≡ replicate pending_most 0 → used ≤ length ms
marks_enough m used xs ms s e = omega (arith, (sound_told m pending_most used xs s).fit, ap length e ∙ length-replicate {A = ℕ} pending_most 0)

-- what marking asks; the code has a record's size as a number n that it has asked for
pub markable : (n m used : ℕ) (xs ms : List ℕ) → n ≡ m → pending_size ≤ n → sound_table m pending_most used xs ≡ true → ms ≡ replicate pending_most 0
    → ((32 ≤ n) × (used * n ≤ length xs)) × ((rising (map id_of (records n used xs)) ≡ true) × ((used ≤ length ms) × (take used ms ≡ replicate used 0)))
markable n m used xs ms q h s e =
    let g = sound_told n pending_most used xs (ap (λ (x : ℕ). sound_table x pending_most used xs) q ∙ s) in
    ((omega arith, sound_room n pending_most used xs g), (g.rise, (marks_enough m used xs ms s e, ap (take used) e ∙ take_zeros used pending_most (omega (arith, g.fit)))))
