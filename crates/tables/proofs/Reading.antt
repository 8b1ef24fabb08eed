-- What the two tables of a file read, told by places: each is read where its number, its records and its length pass, and is corrupt otherwise. Assumes nothing.
use mathlib.Core.Path.{◌≡◌, refl, sym, ap, ap₂, ◌∙◌, subst}
use mathlib.Core.Bool.{Bool, true, false, ◌&&◌}
use mathlib.Core.List.{List, [], ◌∷◌, map}
use Prim.Native.Nat.{ℕ, zero, suc, ◌+◌, ◌*◌, ◌≤◌, ◌<◌}
use native.Mathlib.Omega.{arith}
use native.Mathlib.Nat.{add-zero, suc-mul, zero-mul}
use lib.Dec.{leb}
use lib.ListN.{length, take, drop, length-drop}
use lib.Seq.{drop-drop}
use borrow.Author.Tests.{le-leb, lt-leb, leb-true, leb-false}
use Rattle.kinds.specs.declared.FileVersion.{FileVersion}
use Rattle.kinds.specs.Answers.{corrupt}
use Rattle.rules.specs.Lists.{every}
use Rattle.rules.specs.Records.{records}
use Rattle.rules.specs.Board.{Pending, pending_of, confirmed_size, confirmed_of, in_range, pending_most, confirmed_most}
use Rattle.rules.proofs.Records.{and_left, and_right}
use Rattle.mem.specs.Le.{le_at}
use Rattle.reader.proofs.Taken.{long_taken, records_taken}
use Rattle.format.specs.Parts.{stopped, got, Part, give, number, times, bad, good, ended}
use Rattle.format.specs.File.{Version, version_told, read_pending, read_confirmed, read_table, Tables, read_tables}
use Rattle.codec.proofs.Tells.{then_got, then_stopped, must_yes, must_no, number_at, number_short, Tells, tells_give, tells_must, tells_to, tells_then, tells_last, tells_takes, Takes, too_short, takes_give, takes_as, takes_takes, takes_if, takes_then, takes_times}
use Rattle.tables.specs.Places.{pendings, recents, has_table}

-- ---- records, over their size

module _ {A : Type 0} (size : ℕ) (one : Part A) (of : List ℕ → A) (fine : A → Bool)
    (each : (s : List ℕ) → size ≤ length s → Tells one s (fine (of (take size s))) (of (take size s)) (drop size s)) where
  tells_times : (n : ℕ) (s : List ℕ) → n * size ≤ length s
      → Tells (times n one) s (every fine (map of (records size n s))) (map of (records size n s)) (drop (n * size) s)
  unfolding times records every
  tells_times zero s h = tells_to s (sym (zero-mul size)) (tells_give [] s)
  tells_times (suc n) s h =
      let e : n * size + size ≡ suc n * size = sym (suc-mul n size) in
      let g : size + n * size ≡ suc n * size = omega arith in
      tells_then _ (each s (omega arith))
      (tells_last _ (rw (drop-drop (n * size) size s, g) at (tells_times n (drop size s) (simp length-drop (omega arith)))))

-- the layout of the version's records, under any names
module _ (v : Version) (size : ℕ) (of : List ℕ → Pending) (e : size ≡ v.records.size) (f : of ≡ v.records.read) where
  tells_own : (s : List ℕ) → v.records.size ≤ length s
      → Tells (read_pending v) s (in_range (v.records.read (take v.records.size s))) (v.records.read (take v.records.size s)) (drop v.records.size s)
  unfolding read_pending
  tells_own s h = tells_then _ (tells_takes v.records.size s h) (tells_must _ _ _)

  tells_pending : (s : List ℕ) → size ≤ length s → Tells (read_pending v) s (in_range (of (take size s))) (of (take size s)) (drop size s)
  tells_pending s =
      subst (λ (k : ℕ). k ≤ length s → Tells (read_pending v) s (in_range (of (take k s))) (of (take k s)) (drop k s)) (sym e)
      (subst (λ (g : List ℕ → Pending). v.records.size ≤ length s → Tells (read_pending v) s (in_range (g (take v.records.size s))) (g (take v.records.size s)) (drop v.records.size s)) (sym f) (tells_own s))

  takes_pending : Takes (read_pending v) size
  unfolding read_pending
  takes_pending =
      takes_as (add-zero v.records.size ∙ sym e) (takes_then _ (takes_takes v.records.size) (λ b. takes_if (in_range (v.records.read b)) (takes_give (v.records.read b))))

tells_confirmed : (s : List ℕ) → confirmed_size ≤ length s → Tells read_confirmed s true (confirmed_of (take confirmed_size s)) (drop confirmed_size s)
unfolding read_confirmed
tells_confirmed s h = tells_last confirmed_of (tells_takes confirmed_size s h)

takes_confirmed : Takes read_confirmed confirmed_size
unfolding read_confirmed
takes_confirmed = takes_then _ (takes_takes confirmed_size) (λ b. takes_give (confirmed_of b))

-- ---- one table, over the record size

-- a table that the file has
pub record Has (size most : ℕ) (s : List ℕ) (at : ℕ) : Type 0 where
  pub few : le_at 4 s at ≤ most
  pub room : at + 4 + le_at 4 s at * size ≤ length s

pub has : (size most : ℕ) (s : List ℕ) (at : ℕ) → has_table size most s at ≡ true → Has size most s at
has size most s at h =
    let a = leb (le_at 4 s at) most in
    let b = leb (at + 4 + le_at 4 s at * size) (length s) in
    record { few = leb-true _ _ (and_left a b h); room = leb-true _ _ (and_right a b h) }

module _ (size most : ℕ) (s : List ℕ) (at : ℕ) where
  -- where its records end
  pub end_room : has_table size most s at ≡ true → (n : ℕ) → n ≡ le_at 4 s at → at + 4 + n * size ≤ length s
  end_room h n e = subst (λ (k : ℕ). at + 4 + k * size ≤ length s) (sym e) (has size most s at h).room

  -- the records' bytes, as they are taken
  module _ (h : has_table size most s at ≡ true) (n : ℕ) (e : n ≡ le_at 4 s at) (xs : List ℕ) (f : xs ≡ take (n * size) (drop (at + 4) s)) where
    pub records_are : records size n xs ≡ records size n (drop (at + 4) s)
    records_are = ap (records size n) f ∙ records_taken size n (drop (at + 4) s) (simp length-drop (omega (arith, end_room h n e)))

module _ {A : Type 0} (size most : ℕ) (one : Part A) (s : List ℕ) (at : ℕ) where
  -- the records after their number
  table_records : at + 4 ≤ length s → le_at 4 s at ≤ most → read_table most one (drop at s) ≡ times (le_at 4 s at) one (drop (at + 4) s)
  unfolding read_table
  table_records h k = then_got (number 4) _ (number_at 4 s at h) ∙ must_yes _ corrupt _ (drop (at + 4) s) (le-leb (le_at 4 s at) most k)

  table_cut : Takes one size → at + 4 ≤ length s → le_at 4 s at ≤ most → length s < at + 4 + le_at 4 s at * size → read_table most one (drop at s) ≡ stopped corrupt
  table_cut t h k l = table_records h k ∙ too_short (times (le_at 4 s at) one) _ (takes_times (le_at 4 s at) t) (drop (at + 4) s) (simp length-drop (omega arith))

  -- a table that the file has not, for whichever reason
  table_none : Takes one size → at ≤ length s → has_table size most s at ≡ false → read_table most one (drop at s) ≡ stopped corrupt
  unfolding read_table
  table_none t h f = go (leb (at + 4) (length s)) refl (leb (le_at 4 s at) most) refl (leb (at + 4 + le_at 4 s at * size) (length s)) refl
    where
      go : (a : Bool) → leb (at + 4) (length s) ≡ a → (b : Bool) → leb (le_at 4 s at) most ≡ b → (c : Bool) → leb (at + 4 + le_at 4 s at * size) (length s) ≡ c → read_table most one (drop at s) ≡ stopped corrupt
      go false p b q c r = then_stopped (number 4) _ (number_short 4 s at h (leb-false _ _ p))
      go true p false q c r = then_got (number 4) _ (number_at 4 s at (leb-true _ _ p)) ∙ must_no _ corrupt _ (drop (at + 4) s) q
      go true p true q false r = table_cut t (leb-true _ _ p) (leb-true _ _ q) (leb-false _ _ r)
      go true p true q true r = let z : ◌≡◌ {A = Bool} true false = sym (rw (q, r)) ∙ f in let y : ◌≡◌ {A = ℕ} 0 1 = cc in absurd (omega arith)

  tells_table : (of : List ℕ → A) (fine : A → Bool)
      → ((s : List ℕ) → size ≤ length s → Tells one s (fine (of (take size s))) (of (take size s)) (drop size s))
      → Has size most s at
      → (n : ℕ) → n ≡ le_at 4 s at
      → Tells (read_table most one) (drop at s) (every fine (map of (records size n (drop (at + 4) s)))) (map of (records size n (drop (at + 4) s))) (drop (at + 4 + n * size) s)
  tells_table of fine each h n e =
      subst (λ (k : ℕ). Tells (read_table most one) (drop at s) (every fine (map of (records size k (drop (at + 4) s)))) (map of (records size k (drop (at + 4) s))) (drop (at + 4 + k * size) s)) (sym e)
      (let t = tells_times size one of fine each (le_at 4 s at) (drop (at + 4) s) (simp length-drop (omega (arith, h.room))) in
      record { is = table_records (omega (arith, h.room)) h.few ∙ (rw (drop-drop (le_at 4 s at * size) (at + 4) s) at t).is })

-- ---- both

-- today every version's records are read so
pub told_read : (v : FileVersion) → pending_of ≡ (version_told v).records.read
told_read FileVersion.One = refl
told_read FileVersion.Three = refl

every_yes : {A : Type 0} (xs : List A) → every (λ x. true) xs ≡ true
unfolding every
every_yes [] = refl
every_yes (x ∷ xs) = every_yes xs

module _ (v : Version) (size : ℕ) (of : List ℕ → Pending) (ez : size ≡ v.records.size) (ef : of ≡ v.records.read) (s : List ℕ) (at : ℕ) where
  -- the n records of the first table
  abbrev read_as : ℕ → List Pending
  read_as n = map of (records size n (drop (at + 4) s))

  -- the first table is stopped
  first_stopped : read_table pending_most (read_pending v) (drop at s) ≡ stopped corrupt → ended (read_tables v (drop at s)) ≡ bad corrupt
  unfolding read_tables ended
  first_stopped h = ap ended (then_stopped (read_table pending_most (read_pending v)) _ h)

  pub no_first : at ≤ length s → has_table size pending_most s at ≡ false → ended (read_tables v (drop at s)) ≡ bad corrupt
  no_first h f = first_stopped (table_none size pending_most (read_pending v) s at (takes_pending v size of ez ef) h f)

  module _ (h : has_table size pending_most s at ≡ true) (n : ℕ) (e : n ≡ le_at 4 s at) where
    tells_first : Tells (read_table pending_most (read_pending v)) (drop at s) (every in_range (read_as n)) (read_as n) (drop (at + 4 + n * size) s)
    tells_first = tells_table size pending_most (read_pending v) s at of in_range (tells_pending v size of ez ef) (has size pending_most s at h) n e

    pub out_of_range : every in_range (read_as n) ≡ false → ended (read_tables v (drop at s)) ≡ bad corrupt
    out_of_range f = first_stopped (tells_first.is ∙ rw f)

    module _ (f : every in_range (read_as n) ≡ true) (q : ℕ) (g : q ≡ at + 4 + n * size) where
      first_got : read_table pending_most (read_pending v) (drop at s) ≡ got (read_as n) (drop q s)
      first_got = tells_first.is ∙ rw f (ap (λ (j : ℕ). got (read_as n) (drop j s)) (sym g))

      pub no_second : q ≤ length s → has_table confirmed_size confirmed_most s q ≡ false → ended (read_tables v (drop at s)) ≡ bad corrupt
      unfolding read_tables ended
      no_second l r =
          ap ended
          (then_got (read_table pending_most (read_pending v)) _ first_got
          ∙ then_stopped (read_table confirmed_most read_confirmed) _ (table_none confirmed_size confirmed_most read_confirmed s q takes_confirmed l r))

      module _ (k : has_table confirmed_size confirmed_most s q ≡ true) (m : ℕ) (o : m ≡ le_at 4 s q) where
        abbrev both : Tables
        both = record { pending = read_as n; recent = recents s (q + 4) m }

        both_got : read_tables v (drop at s) ≡ got both (drop (q + 4 + m * confirmed_size) s)
        unfolding read_tables give
        both_got =
            let t = tells_table confirmed_size confirmed_most read_confirmed s q confirmed_of (λ x. true) tells_confirmed (has confirmed_size confirmed_most s q k) m o in
            then_got (read_table pending_most (read_pending v)) _ first_got
            ∙ then_got (read_table confirmed_most read_confirmed) _ (t.is ∙ rw (every_yes (map confirmed_of (records confirmed_size m (drop (q + 4) s)))))

        pub extra : q + 4 + m * confirmed_size < length s → ended (read_tables v (drop at s)) ≡ bad corrupt
        unfolding ended
        extra l = ap ended both_got ∙ go (drop (q + 4 + m * confirmed_size) s) (simp length-drop (omega arith))
          where
            go : (t : List ℕ) → 0 < length t → ended (got both t) ≡ bad corrupt
            go [] z = absurd (omega arith)
            go (b ∷ t) z = refl

        both_good : length s ≤ q + 4 + m * confirmed_size → ended (read_tables v (drop at s)) ≡ good both
        unfolding ended
        both_good l = ap ended both_got ∙ go (drop (q + 4 + m * confirmed_size) s) (simp length-drop (omega arith))
          where
            go : (t : List ℕ) → length t ≡ 0 → ended (got both t) ≡ good both
            go [] z = refl
            go (b ∷ t) z = absurd (omega arith)

        pub both_said : length s ≤ q + 4 + m * confirmed_size
            → ended (read_tables v (drop at s)) ≡ good (record { pending = pendings v s (at + 4) n; recent = recents s (at + 4 + n * v.records.size + 4) m })
        both_said l =
            both_good l
            ∙ ap (λ (i : ℕ). good (record { pending = read_as n; recent = recents s (i + 4) m })) g
            ∙ ap₂ (λ (h : List ℕ → Pending) (k : ℕ). good (record { pending = map h (records k n (drop (at + 4) s)); recent = recents s (at + 4 + n * k + 4) m })) ef ez
