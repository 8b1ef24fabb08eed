-- A file that is not read is refused as 8, 9 or 10, since each part is; so a reading that is done has read the file and found room for it.
-- Assumes nothing.
use mathlib.Core.Path.{◌≡◌, refl, sym, ap, subst, ◌∙◌}
use mathlib.Core.Bool.{Bool, true, false, ◌&&◌, cond}
use mathlib.Core.List.{List, [], ◌∷◌}
use Prim.Native.Nat.{ℕ, zero, suc, ◌≤◌}
use native.Mathlib.Omega.{arith}
use lib.Dec.{leb, eqb}
use lib.ListN.{length, take, drop}
use lib.Ieee.{binary64, of_bits}
use Rattle.kinds.specs.Answers.{Answer, bad_magic, unknown_version, corrupt}
use Rattle.rules.specs.Ids.{same}
use Rattle.rules.specs.Ladder.{buckets}
use Rattle.rules.specs.Counts.{columns, sound_count}
use Rattle.rules.specs.Bytes.{le}
use Rattle.rules.specs.Board.{Board, in_range, confirmed_size, confirmed_of, pending_most, confirmed_most}
use Rattle.rules.specs.Estimator.{Estimator}
use Rattle.rules.specs.Memory.{Lent, enough}
use Rattle.rules.specs.Calls.{accepted}
use Rattle.std.specs.Prelude.{None, Some}
use Rattle.format.specs.Parts.{Read, stopped, got, Part, and_then, ◌>>=◌, ◌>>◌, give, refuse, must, takes, number, times, Parsed, bad, good, ended}
use Rattle.format.specs.File.{Version, magic, rates, read_flagged, read_last, read_bucket_count, with_bucket_count, read_start, read_after, read_head, read_count, read_row, read_buckets, read_pending, read_confirmed, read_table, read_tables, read_file, read_history, restored}
use Rattle.format.specs.Calls.{has_room, taken_in, read_call}

-- Why a file s is refused: BadMagic; UnknownVersion, with the number that stands in its bytes 8 to 11; or Corrupt.
pub data Refusal (s : List ℕ) : Answer → Type 0 where
  not_magic : Refusal s bad_magic
  other_version : Refusal s (unknown_version (le (take 4 (drop 8 s))))
  no_file : Refusal s corrupt

-- a part that was read, or one whose refusal is a P
data Ends (P : Answer → Type 0) {A : Type 0} : Read A → Type 0 where
  no : {why : Answer} → P why → Ends P (stopped why)
  yes : {a : A} {s : List ℕ} → Ends P (got a s)

record Stops (P : Answer → Type 0) {A : Type 0} (p : Part A) : Type 0 where
  pub of : (s : List ℕ) → Ends P (p s)

ends_then : {P : Answer → Type 0} {A B : Type 0} (k : A → Part B) (r : Read A) → Ends P r → ((a : A) (s : List ℕ) → r ≡ got a s → Ends P (k a s)) → Ends P (and_then r k)
ends_then k (stopped why) (no w) g = no w
ends_then k (got a s) yes g = g a s refl

-- ---- the parts, where Corrupt is a P

module _ {P : Answer → Type 0} (is-corrupt : P corrupt) where
  stops_give : {A : Type 0} (a : A) → Stops P (give a)
  unfolding give
  stops_give a = record { of = λ s. yes }

  stops_refuse : {A : Type 0} (why : Answer) → P why → Stops P {A = A} (refuse why)
  unfolding refuse
  stops_refuse why h = record { of = λ s. no h }

  stops_must : (t : Bool) (why : Answer) → P why → Stops P (must t why)
  unfolding must
  stops_must true why h = record { of = λ s. yes }
  stops_must false why h = record { of = λ s. no h }

  stops_takes : (n : ℕ) → Stops P (takes n)
  unfolding takes
  stops_takes n = record { of = λ s. go s (leb n (length s)) }
    where
      go : (s : List ℕ) (t : Bool) → Ends P (cond t (got (take n s) (drop n s)) (stopped corrupt))
      go s true = yes
      go s false = no is-corrupt

  stops_then : {A B : Type 0} {p : Part A} {k : A → Part B} → Stops P p → ((a : A) → Stops P (k a)) → Stops P (p >>= k)
  unfolding ◌>>=◌
  stops_then {A} {B} {p} {k} h g = record { of = λ s. go (p s) (h.of s) }
    where
      go : (r : Read A) → Ends P r → Ends P (and_then r k)
      go (stopped why) (no w) = no w
      go (got a s) yes = (g a).of s

  stops_next : {A B : Type 0} {p : Part A} {q : Part B} → Stops P p → Stops P q → Stops P (p >> q)
  unfolding ◌>>◌
  stops_next {A} {B} {p} {q} h g = record { of = λ s. go (p s) (h.of s) }
    where
      go : (r : Read A) → Ends P r → Ends P (and_then r (λ _. q))
      go (stopped why) (no w) = no w
      go (got a s) yes = g.of s

  stops_number : (n : ℕ) → Stops P (number n)
  unfolding number
  stops_number n = stops_then (stops_takes n) (λ bs. stops_give (le bs))

  stops_times : {A : Type 0} {p : Part A} (n : ℕ) → Stops P p → Stops P (times n p)
  unfolding times
  stops_times zero h = stops_give []
  stops_times (suc n) h = stops_then h (λ a. stops_then (stops_times n h) (λ rest. stops_give (a ∷ rest)))

  stops_flagged : (n : ℕ) → Stops P (read_flagged n)
  unfolding read_flagged
  stops_flagged zero = stops_give None
  stops_flagged (suc zero) = stops_then (stops_number 4) (λ h. stops_give (Some (record { 0 = h })))
  stops_flagged (suc (suc n)) = stops_refuse corrupt is-corrupt

  stops_last : Stops P read_last
  unfolding read_last
  stops_last = stops_then (stops_number 1) stops_flagged

  -- all that stands after the version
  stops_after : (v : Version) → Stops P (read_after v >> read_start)
  unfolding read_after read_start with_bucket_count read_bucket_count
  stops_after v =
      stops_next (stops_then (stops_takes (length v.after)) (λ b. stops_must (same b v.after) corrupt is-corrupt))
      (stops_then stops_last (λ last. stops_next (stops_then (stops_number 4) (λ n. stops_must (eqb n buckets) corrupt is-corrupt)) (stops_give last)))

  stops_row : Stops P read_row
  unfolding read_row read_count
  stops_row =
      stops_times columns
      (stops_then (stops_number 8) (λ bits. stops_next (stops_must (sound_count (of_bits binary64 bits)) corrupt is-corrupt) (stops_give (of_bits binary64 bits))))

  stops_buckets : (rs : List ℕ) → Stops P (read_buckets rs)
  unfolding read_buckets
  stops_buckets [] = stops_give _
  stops_buckets (r ∷ rs) =
      stops_then (stops_number 8) (λ n. stops_next (stops_must (eqb n r) corrupt is-corrupt)
      (stops_then stops_row (λ cs. stops_then stops_row (λ ds. stops_then (stops_buckets rs) (λ more. stops_give _)))))

  stops_table : {A : Type 0} {p : Part A} (most : ℕ) → Stops P p → Stops P (read_table most p)
  unfolding read_table
  stops_table most h = stops_then (stops_number 4) (λ n. stops_next (stops_must (leb n most) corrupt is-corrupt) (stops_times n h))

  stops_tables : (v : Version) → Stops P (read_tables v)
  unfolding read_tables read_pending read_confirmed
  stops_tables v =
      stops_then
      (stops_table pending_most
      (stops_then (stops_takes v.records.size) (λ b. stops_next (stops_must (in_range (v.records.read b)) corrupt is-corrupt) (stops_give (v.records.read b)))))
      (λ ps. stops_then (stops_table confirmed_most (stops_then (stops_takes confirmed_size) (λ b. stops_give (confirmed_of b)))) (λ cs. stops_give _))

-- ---- the file

-- what a part that was read has read

took : (n : ℕ) (s a t : List ℕ) → takes n s ≡ got a t → (a ≡ take n s) × (t ≡ drop n s)
unfolding takes
took n s a t = go (leb n (length s))
  where
    go : (b : Bool) → cond b (got (take n s) (drop n s)) (stopped corrupt) ≡ got a t → (a ≡ take n s) × (t ≡ drop n s)
    go true e = (cc, cc)
    go false e = let z : ◌≡◌ {A = ℕ} 0 1 = cc in absurd (omega arith)

passed : (b : Bool) (why : Answer) (s t : List ℕ) (u : Unit {0}) → must b why s ≡ got u t → t ≡ s
unfolding must
passed true why s t u e = cc
passed false why s t u e = let z : ◌≡◌ {A = ℕ} 0 1 = cc in absurd (omega arith)

numbered : (n : ℕ) (s t : List ℕ) (m : ℕ) → number n s ≡ got m t → m ≡ le (take n s)
unfolding number ◌>>=◌ give
numbered n s t m e = go (takes n s) refl e
  where
    go : (r : Read (List ℕ)) → takes n s ≡ r → and_then r (λ bs. give (le bs)) ≡ got m t → m ≡ le (take n s)
    go (stopped why) p q = let z : ◌≡◌ {A = ℕ} 0 1 = cc in absurd (omega arith)
    go (got a u) p q = let f : m ≡ le a = cc in f ∙ ap le (took n s a u p).0

ends_head : (v : Version) (s : List ℕ) → Ends (Refusal s) (read_head v s)
unfolding read_head ◌>>=◌ ◌>>◌
ends_head v s =
    ends_then _ (takes 8 s) ((stops_takes no_file 8).of s) (λ m t e.
    ends_then _ (must (same m magic) bad_magic t) ((stops_must no_file (same m magic) bad_magic not_magic).of t) (λ u t' e'.
    ends_then _ (number 4 t') ((stops_number no_file 4).of t') (λ n r f.
    let is : le (take 4 (drop 8 s)) ≡ n = sym (numbered 4 t' r n f ∙ ap (λ (x : List ℕ). le (take 4 x)) (passed _ _ _ _ _ e' ∙ (took 8 s m t e).1)) in
    ends_then _ (must (eqb n v.number) (unknown_version n) r) ((stops_must no_file _ _ (subst (λ (x : ℕ). Refusal s (unknown_version x)) is other_version)).of r) (λ w r' f'.
    (stops_after no_file v).of r'))))

ends_file : (v : Version) (s : List ℕ) → Ends (Refusal s) (read_file v s)
unfolding read_file ◌>>=◌
ends_file v s =
    ends_then _ (read_head v s) (ends_head v s) (λ last t e.
    (stops_then no_file (stops_buckets no_file rates) (λ rows. stops_then no_file (stops_tables no_file v) (λ tables. stops_give no_file _))).of t)

pub refused_as : (v : Version) (s : List ℕ) (why : Answer) → read_history v s ≡ bad why → Refusal s why
unfolding read_history ended
refused_as v s why h = go (read_file v s) (ends_file v s) h
  where
    go : (r : Read Estimator) → Ends (Refusal s) r → ended r ≡ bad why → Refusal s why
    go (stopped w) (no r) e = let same : w ≡ why = cc in subst (Refusal s) same r
    go (got a []) yes e = let z : ◌≡◌ {A = ℕ} 0 1 = cc in absurd (omega arith)
    go (got a (b ∷ t)) yes e = let same : corrupt ≡ why = cc in subst (Refusal s) same no_file

pub refused_by_number : (v : Version) (s : List ℕ) (why : Answer) → read_history v s ≡ bad why → (8 ≤ why.number) × (why.number ≤ 10)
refused_by_number v s why h = go why (refused_as v s why h)
  where
    go : (w : Answer) → Refusal s w → (8 ≤ w.number) × (w.number ≤ 10)
    go w not_magic = (omega arith, omega arith)
    go w other_version = (omega arith, omega arith)
    go w no_file = (omega arith, omega arith)

-- ---- a reading that is done

pub record Taken (v : Version) (k : Board) (l : Lent) (file : List ℕ) : Type 0 where
  pub held : Estimator
  pub read : read_history v file ≡ good held
  pub room : has_room k l held ≡ true
  pub is : read_call v k l file ≡ accepted k (restored held) l

pub taken : (v : Version) (k : Board) (l : Lent) (file : List ℕ) → (read_call v k l file).answer.number ≡ 0 → Taken v k l file
unfolding read_call taken_in
taken v k l file = go (enough l.confirmed && enough l.resolved) refl (read_history v file) refl
  where
    held : (e : Estimator) → (enough l.confirmed && enough l.resolved) ≡ true → read_history v file ≡ good e → (b : Bool) → has_room k l e ≡ b → (read_call v k l file).answer.number ≡ 0 → Taken v k l file
    held e p q true r d = record { held = e; read = q; room = r; is = rw (p, q, r) }
    held e p q false r d = absurd (let z : ◌≡◌ {A = ℕ} 11 0 = rw (p, q, r) at d in omega arith)

    go : (b : Bool) → (enough l.confirmed && enough l.resolved) ≡ b → (r : Parsed Estimator) → read_history v file ≡ r → (read_call v k l file).answer.number ≡ 0 → Taken v k l file
    go true p (good e) q d = held e p q (has_room k l e) refl d
    go true p (bad why) q d = absurd (let z : why.number ≡ 0 = rw (p, q) at d in omega (arith, (refused_by_number v file why q).0))
    go false p r q d = absurd (let z : ◌≡◌ {A = ℕ} 1 0 = rw p at d in omega arith)
