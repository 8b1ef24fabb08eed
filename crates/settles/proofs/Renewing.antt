-- One look at the confirmed table, and what it leaves there. Assumes nothing.
use Rattle.std.specs.Prelude.{Ok, Err}
use mathlib.Core.Path.{◌≡◌, sym, ap, ap₂, ◌∙◌}
use mathlib.Core.Bool.{Bool, true, false, cond}
use mathlib.Core.List.{List, [], map}
use Prim.Native.Nat.{ℕ, ◌^◌, ◌<◌}
use lib.Dec.{T}
use lib.ListN.{get_or, set}
use lib.Pow.{are_bytes}
use borrow.Author.Tests.{eq-eqb, ne_eqb}
use Rattle.rules.specs.Ids.{Id, rising}
use Rattle.rules.specs.Records.{records, id_of, sound_table, laid}
use Rattle.rules.specs.Board.{Pending, Confirmed, confirmed_size, confirmed_most, confirmed_of}
use Rattle.rules.specs.Estimator.{holds, become}
use Rattle.rules.specs.Memory.{confirmed_records, lay_confirmed}
use Rattle.rules.proofs.Ids.{Up, up_of}
use Rattle.rules.proofs.Memory.{confirmed_kept, own}
use Rattle.ids.specs.Search.{find_in}
use Rattle.table.specs.Fields.{with_field}
use Rattle.table.proofs.Sound.{sound_told}
use Rattle.table.proofs.Steps.{confirmed_ids}
use Rattle.table.proofs.View.{at_any, gap_any}
use Rattle.by_id.proofs.ById.{held, not_held, noted_again}
use Rattle.batch.specs.Batch.{is_confirmed, renewed}
use Rattle.batch.proofs.Settling.{renewed_is, raised_held, raised_absent, raised_become}
use Rattle.settles.specs.declared.Held.TheVariants.{Exactly, Another, Nothing}
use Rattle.settles.specs.Settled.{looked}

module _ (i : Id) (used n : ℕ) (xs : List ℕ) (s : sound_table confirmed_size confirmed_most used xs ≡ true) (B : ℕ) where
  abbrev bs : List (List ℕ)
  bs = records confirmed_size used xs

  abbrev cs : List Confirmed
  cs = confirmed_records used xs

  rises : rising (map (λ (c : Confirmed). c.id) (map confirmed_of bs)) ≡ true
  rises = ap rising (confirmed_ids bs) ∙ (sound_told confirmed_size confirmed_most used xs s).rise

  up : Up (λ c. c.id) cs
  unfolding confirmed_records
  up = up_of (λ c. c.id) (map confirmed_of bs) rises

  -- any pending record of i
  abbrev some_of : Pending
  some_of = record { id = i; bucket = 0; entry = 0; through = 0 }

  there : find_in i (map id_of bs) ≡ Ok n → is_confirmed i cs ≡ true
  unfolding is_confirmed confirmed_records
  there f = at_any (λ c. c.id) i 0 n (map confirmed_of bs) (rw confirmed_ids f)

  missing : find_in i (map id_of bs) ≡ Err n → is_confirmed i cs ≡ false
  unfolding is_confirmed confirmed_records
  missing f = gap_any (λ c. c.id) i 0 n (map confirmed_of bs) rises (rw confirmed_ids f)

  unchanged : T (are_bytes xs) → renewed B i cs ≡ cs → xs ≡ lay_confirmed (renewed B i cs) xs
  unfolding lay_confirmed confirmed_records
  unchanged b e = sym (ap (λ (l : List Confirmed). lay_confirmed l xs) e ∙ own confirmed_kept confirmed_most used xs s b)

  -- it holds exactly B
  pub looked_same : T (are_bytes xs) → find_in i (map id_of bs) ≡ Ok n → (old : ℕ) → old ≡ (confirmed_of (get_or bs n [])).height → old ≡ B
      → (Exactly ≡ looked B i cs) × (xs ≡ lay_confirmed (renewed B i cs) xs)
  looked_same b f old e q =
      let h : holds i B cs ≡ true = sym (held i used n xs s B f old e) ∙ eq-eqb old B q in
      (sym (ap (λ (t : Bool). cond t Exactly (cond (is_confirmed i cs) Another Nothing)) h), unchanged b (renewed_is B some_of cs ∙ raised_held B some_of up h))

  -- it gets B
  pub looked_older : (ys : List ℕ) → T (are_bytes ys) → B < 256 ^ 4 → find_in i (map id_of bs) ≡ Ok n → (old : ℕ) → old ≡ (confirmed_of (get_or bs n [])).height → (old ≡ B → ⊥)
      → ys ≡ laid confirmed_size used (set bs n (with_field 32 B (get_or bs n []))) xs
      → (Another ≡ looked B i cs) × (ys ≡ lay_confirmed (renewed B i cs) xs)
  looked_older ys b small f old e q w =
      let h : holds i B cs ≡ false = sym (held i used n xs s B f old e) ∙ ne_eqb old B q in
      let k : renewed B i cs ≡ become i B cs = renewed_is B some_of cs ∙ raised_become B some_of up (there f) in
      (sym (ap₂ (λ (t u : Bool). cond t Exactly (cond u Another Nothing)) h (there f)), noted_again i used n xs s B ys b small f w ∙ ap (λ (l : List Confirmed). lay_confirmed l xs) (sym k))

  -- there is none
  pub looked_none : T (are_bytes xs) → find_in i (map id_of bs) ≡ Err n → (Nothing ≡ looked B i cs) × (xs ≡ lay_confirmed (renewed B i cs) xs)
  looked_none b f =
      (sym (ap₂ (λ (t u : Bool). cond t Exactly (cond u Another Nothing)) (sym (not_held i used n xs s B f)) (missing f)), unchanged b (renewed_is B some_of cs ∙ raised_absent B some_of up (missing f)))
