-- The loop that judges whether ids rise, with the first word of the id before kept. Where that word is below the next one the ids rise there; else all 32 bytes are
-- compared. So a turn always knows `below` of two neighbours. Assumes nothing.
use mathlib.Core.Path.{◌≡◌, refl, sym, ap, ◌∙◌}
use mathlib.Core.Bool.{Bool, true, false, ◌&&◌}
use mathlib.Core.List.{List, [], map}
use Prim.Native.Nat.{ℕ, ◌+◌, ◌*◌, ◌-◌, ◌≤◌, ◌<◌}
use native.Mathlib.Omega.{arith}
use lib.ListN.{length, drop, get_or, length-drop}
use Rattle.rules.specs.Ids.{Id, below, rising}
use Rattle.rules.specs.Records.{records, id_of}
use Rattle.lists.proofs.Part.{next_part}
use Rattle.mem.specs.Be.{be_at}
use Rattle.ids.proofs.Ids.{id32, below_cmp_is}
use Rattle.ids.proofs.First.{words_below}
use Rattle.ids.proofs.Records.{length_ids, get_or_ids, record_end}
use Rattle.ids.proofs.Rising.{rising_turn, rising_short}

-- the ids of the records
abbrev ids : ℕ → ℕ → List ℕ → List Id
ids size used xs = map id_of (records size used xs)

-- the id of record i is above that of the one before it
abbrev pub above : ℕ → List ℕ → ℕ → Bool
above size xs i = below (id32 (i * size - size) xs) (id32 (i * size) xs)

-- the invariant: record i is next, `last` is the first word of the one before it, and the ids rise exactly if those from that one on do
pub record Climb (size used : ℕ) (xs : List ℕ) (last i : ℕ) : Type 0 where
  pub wide : 32 ≤ size
  pub room : used * size ≤ length xs
  pub i_from : 1 ≤ i
  pub i_le : i ≤ used
  pub last_is : last ≡ be_at 4 xs (i * size - size)
  pub rest : rising (ids size used xs) ≡ rising (drop (i - 1) (ids size used xs))

pub starts : {size used : ℕ} {xs : List ℕ} {first : ℕ} → 32 ≤ size → used * size ≤ length xs → 0 < used → first ≡ be_at 4 xs 0 → Climb size used xs first 1
starts {size} {used} {xs} {first} w r u f =
    let e : 0 ≡ 1 * size - size = omega arith in
    record { wide = w; room = r; i_from = omega arith; i_le = omega arith; last_is = f ∙ ap (be_at 4 xs) e; rest = refl }

module _ {size used : ℕ} {xs : List ℕ} {last i : ℕ} (c : Climb size used xs last i) where
  -- within a turn: record i, and the one before it, lie within the bytes
  pub two_ends : i < used → (size ≤ i * size) × (i * size + size ≤ length xs)
  two_ends l =
      let n : i - 1 + 1 ≡ i = omega (arith, c.i_from) in
      let e : i * size ≡ (i - 1) * size + size = ap (λ (k : ℕ). k * size) (sym n) ∙ next_part size (i - 1) in
      let r = record_end size used i l in
      (omega arith, omega (arith, r, c.room))

  neighbours : i < used → rising (drop (i - 1) (ids size used xs)) ≡ above size xs i && rising (drop i (ids size used xs))
  neighbours l =
      let n : i - 1 + 1 ≡ i = omega (arith, c.i_from) in
      let p : (i - 1) * size ≡ i * size - size = (let e = next_part size (i - 1) in let f : (i - 1 + 1) * size ≡ i * size = ap (λ (k : ℕ). k * size) n in omega arith) in
      let first : get_or (ids size used xs) (i - 1) [] ≡ id32 (i * size - size) xs = get_or_ids size used (i - 1) xs c.wide (omega arith) ∙ ap (λ (k : ℕ). id32 k xs) p in
      let second : get_or (ids size used xs) (i - 1 + 1) [] ≡ id32 (i * size) xs = ap (λ (k : ℕ). get_or (ids size used xs) k []) n ∙ get_or_ids size used i xs c.wide l in
      let turn = rising_turn (ids size used xs) (i - 1) (omega (arith, length_ids size used xs)) in
      turn ∙ rw (first, second, n, below_cmp_is)

  -- the words decide
  pub quick : ((j : ℕ) → get_or xs j 0 < 256) → {next : ℕ} → next ≡ be_at 4 xs (i * size) → i < used → last < next → above size xs i ≡ true
  quick bytes {next} n l q =
      let e = two_ends l in
      let w = c.wide in
      words_below xs (i * size - size) xs (i * size) (omega arith) (omega arith) bytes bytes (omega (arith, q, n, c.last_is))

  pub goes_on : {next : ℕ} → next ≡ be_at 4 xs (i * size) → i < used → above size xs i ≡ true → Climb size used xs next (i + 1)
  goes_on {next} m l b =
      let e : i * size ≡ (i + 1) * size - size = (let f = next_part size i in omega arith) in
      let n : i + 1 - 1 ≡ i = omega arith in
      record { wide = c.wide; room = c.room; i_from = omega arith; i_le = omega arith; last_is = m ∙ ap (be_at 4 xs) e; rest = c.rest ∙ neighbours l ∙ rw (b, n) }

  pub stops : i < used → above size xs i ≡ false → rising (ids size used xs) ≡ false
  stops l b = c.rest ∙ neighbours l ∙ rw b

  pub ends : used ≤ i → rising (ids size used xs) ≡ true
  ends l = c.rest ∙ rising_short (drop (i - 1) (ids size used xs)) (rw length-drop (omega (arith, length_ids size used xs, c.i_from)))
