-- Records by their id: what a search of one table tells, and what an edit of it leaves, which are the rules' records, laid. Assumes nothing.
use Rattle.std.specs.Prelude.{Ok, Err}
use mathlib.Core.Path.{◌≡◌, sym, ap, subst, ◌∙◌}
use mathlib.Core.Bool.{true, false}
use mathlib.Core.List.{List, [], map}
use Prim.Native.Nat.{ℕ, ◌+◌, ◌-◌, ◌*◌, ◌^◌, ◌≤◌, ◌<◌}
use native.Mathlib.Omega.{arith}
use lib.Dec.{T, eqb}
use lib.ListN.{length, take, drop, get_or, set, length-map, length-append, length-take, length-drop, length-set}
use lib.Pow.{are_bytes}
use Rattle.rules.specs.Ids.{Id, rising}
use Rattle.rules.specs.Records.{records, id_of, sound_table, laid}
use Rattle.rules.specs.Board.{Board, Lawful, pending_most, confirmed_size, confirmed_most, confirmed_of}
use Rattle.rules.specs.Estimator.{is_pending, without, holds, become}
use Rattle.rules.specs.Memory.{pending_records, confirmed_records, lay_pending, lay_confirmed}
use Rattle.rules.proofs.Ids.{dropped_absent}
use Rattle.rules.proofs.Records.{Sized, length_records, sized_records}
use Rattle.rules.proofs.Memory.{confirmed_kept, own}
use Rattle.ids.specs.Search.{find_in}
use Rattle.table.specs.Edit.{remove_at}
use Rattle.table.specs.Fields.{with_field}
use Rattle.ids.specs.Search.{Found}
use Rattle.table.proofs.Fields.{length_with_field}
use Rattle.ids.proofs.Records.{length_ids, record_end, id_at}
use Rattle.table.proofs.Records.{sized_remove, sized_set, sized_at}
use Rattle.ids.proofs.Search.{at_told, gap_told}
use Rattle.table.proofs.Sound.{sound_told, sound_room}
use Rattle.table.proofs.Edited.{edited, passed}
use Rattle.table.proofs.Steps.{pending_missing, pending_there, pending_without, confirmed_not_held, confirmed_held, confirmed_again}

-- ---- any table

-- The code has a record's size as a number n that it has asked for; the rules have it as m.

-- what a search asks of a sound one
pub searchable : (n m most used : ℕ) (xs i : List ℕ) → n ≡ m → 32 ≤ n → sound_table m most used xs ≡ true → length i ≡ 32
    → ((32 ≤ n) × (used * n ≤ length xs)) × ((rising (map id_of (records n used xs)) ≡ true) × (length i ≡ 32))
searchable n m most used xs i q h s e =
    let g = sound_told n most used xs (ap (λ (x : ℕ). sound_table x most used xs) q ∙ s) in
    ((h, sound_room n most used xs g), (g.rise, e))

-- what a search over the code's size has told of the rules'
pub told : (n m used : ℕ) (xs : List ℕ) (i : Id) {r o : Found} → n ≡ m → r ≡ find_in i (map id_of (records n used xs)) → r ≡ o → find_in i (map id_of (records m used xs)) ≡ o
told n m used xs i q f e = ap (λ (x : ℕ). find_in i (map id_of (records x used xs))) (sym q) ∙ sym f ∙ e

-- a record that is found is a used one, and a place that is found is among them or after them
at_used : (size used n : ℕ) (xs : List ℕ) (i : Id) → find_in i (map id_of (records size used xs)) ≡ Ok n → n < used
at_used size used n xs i f = let t = at_told i (map id_of (records size used xs)) n f in omega (arith, t.within, length_ids size used xs)

pub gap_used : (size used n : ℕ) (xs : List ℕ) (i : Id) → find_in i (map id_of (records size used xs)) ≡ Err n → n ≤ used
gap_used size used n xs i f = let t = gap_told i (map id_of (records size used xs)) n f in omega (arith, t.within, length_ids size used xs)

-- the records are within the bytes
pub within_bytes : (n m most used : ℕ) (xs : List ℕ) → n ≡ m → sound_table m most used xs ≡ true → used * n ≤ length xs
within_bytes n m most used xs q s = subst (λ (x : ℕ). used * x ≤ length xs) (sym q) (sound_room m most used xs (sound_told m most used xs s))

-- what reading or changing the record that is found asks
pub in_table : (n m most used j : ℕ) (xs : List ℕ) (i : Id) → n ≡ m → sound_table m most used xs ≡ true → find_in i (map id_of (records m used xs)) ≡ Ok j → (j < used) × (used * n ≤ length xs)
in_table n m most used j xs i q s f = (at_used m used j xs i f, within_bytes n m most used xs q s)

-- the id of record number i stands within the bytes
pub id_within : (n m most used i : ℕ) (xs : List ℕ) → n ≡ m → 32 ≤ n → i < used → sound_table m most used xs ≡ true → i * n + 32 ≤ length xs
id_within n m most used i xs q h l s = omega (arith, within_bytes n m most used xs q s, record_end n used i l)

-- ---- the pending table

-- the part of the bytes that is lent as the id of record number i
pub lent_id : (k : Board) → Lawful k → (n used i : ℕ) (xs : List ℕ) → n ≡ k.table.size → 32 ≤ n → i < used
    → take 32 (drop (i * n) xs) ≡ (k.table.read (get_or (records k.table.size used xs) i [])).id
lent_id k law n used i xs q h l =
    sym (law.named (get_or (records k.table.size used xs) i []) ∙ ap (λ (z : ℕ). id_of (get_or (records z used xs) i [])) (sym q) ∙ id_at n used i xs h l)

module _ (k : Board) (law : Lawful k) (i : Id) (used n : ℕ) (xs : List ℕ) (s : sound_table k.table.size pending_most used xs ≡ true) where
  pub there : find_in i (map id_of (records k.table.size used xs)) ≡ Ok n → true ≡ is_pending i (pending_records k used xs)
  unfolding pending_records
  there f = sym (pending_there k.table.read law.named i n (records k.table.size used xs) f)

  pub missing : find_in i (map id_of (records k.table.size used xs)) ≡ Err n → false ≡ is_pending i (pending_records k used xs)
  unfolding pending_records
  missing f = sym (pending_missing k.table.read law.named i n (records k.table.size used xs) (sound_told _ _ used xs s).rise f)

  -- the record of i goes
  pub removed : (z : ℕ) (ys : List ℕ) → z ≡ k.table.size → T (are_bytes ys) → find_in i (map id_of (records k.table.size used xs)) ≡ Ok n → ys ≡ laid z used (remove_at n (records z used xs)) xs
      → (used - 1 ≡ length (without i (pending_records k used xs))) × (ys ≡ lay_pending k (without i (pending_records k used xs)) xs)
  unfolding pending_records lay_pending remove_at
  removed z ys q b f r =
      let g = sound_told k.table.size pending_most used xs s in
      let rs : List (List ℕ) = records k.table.size used xs in
      let many : length rs ≡ used = length_records k.table.size used xs in
      let m : n < used = at_used k.table.size used n xs i f in
      let fewer : length (remove_at n rs) ≡ used - 1 = simp (length-append, length-take, length-drop) (omega arith) in
      passed law.kept pending_most used used (used - 1) (remove_at n rs) _ xs ys s b (omega arith) g.fit (omega arith)
      (sized_remove k.table.size n rs (sized_records k.table.size used xs (sound_room k.table.size pending_most used xs g)))
      (pending_without k.table.read law.named i n rs g.rise f) (sym fewer) (r ∙ ap (λ (x : ℕ). laid x used (remove_at n (records x used xs)) xs) q)

  -- where there is no record of i, none goes
  pub unmoved : T (are_bytes xs) → find_in i (map id_of (records k.table.size used xs)) ≡ Err n
      → (used ≡ length (without i (pending_records k used xs))) × (xs ≡ lay_pending k (without i (pending_records k used xs)) xs)
  unfolding pending_records lay_pending is_pending
  unmoved b f =
      let rs : List (List ℕ) = records k.table.size used xs in
      let e : without i (map k.table.read rs) ≡ map k.table.read rs = dropped_absent (λ r. r.id) i (map k.table.read rs) (sym (missing f)) in
      rw e (sym (length-map rs k.table.read ∙ length_records k.table.size used xs), sym (own law.kept pending_most used xs s b))

-- ---- the confirmed table

module _ (i : Id) (used n : ℕ) (xs : List ℕ) (s : sound_table confirmed_size confirmed_most used xs ≡ true) (h : ℕ) where
  pub held : find_in i (map id_of (records confirmed_size used xs)) ≡ Ok n → (old : ℕ) → old ≡ (confirmed_of (get_or (records confirmed_size used xs) n [])).height
      → eqb old h ≡ holds i h (confirmed_records used xs)
  unfolding confirmed_records
  held f old e = rw e (sym (confirmed_held i n (records confirmed_size used xs) (sound_told _ _ used xs s).rise h f))

  pub not_held : find_in i (map id_of (records confirmed_size used xs)) ≡ Err n → false ≡ holds i h (confirmed_records used xs)
  unfolding confirmed_records
  not_held f = sym (confirmed_not_held i n (records confirmed_size used xs) (sound_told _ _ used xs s).rise h f)

  -- another height in the record of i
  pub noted_again : (ys : List ℕ) → T (are_bytes ys) → h < 256 ^ 4 → find_in i (map id_of (records confirmed_size used xs)) ≡ Ok n
      → ys ≡ laid confirmed_size used (set (records confirmed_size used xs) n (with_field 32 h (get_or (records confirmed_size used xs) n []))) xs
      → ys ≡ lay_confirmed (become i h (confirmed_records used xs)) xs
  unfolding confirmed_records lay_confirmed
  noted_again ys b small f q =
      let g = sound_told confirmed_size confirmed_most used xs s in
      let rs : List (List ℕ) = records confirmed_size used xs in
      let new : List ℕ = with_field 32 h (get_or rs n []) in
      let z : Sized confirmed_size rs = sized_records confirmed_size used xs (sound_room confirmed_size confirmed_most used xs g) in
      let many : length rs ≡ used = length_records confirmed_size used xs in
      let m : n < used = at_used confirmed_size used n xs i f in
      let size : length new ≡ confirmed_size = length_with_field 32 h (get_or rs n []) ∙ sized_at confirmed_size n rs z (omega arith) in
      edited confirmed_kept confirmed_most used used (set rs n new) _ xs ys s b (omega arith) g.fit (omega (arith, length-set rs n new)) (sized_set confirmed_size n new rs size z)
      (confirmed_again i n rs g.rise h z small f) q
