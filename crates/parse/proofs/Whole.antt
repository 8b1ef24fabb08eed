-- What a whole file is read as, told by places: the header with what stands after the version's number, the buckets, the tables. Assumes nothing.
use mathlib.Core.Path.{◌≡◌, refl, sym, ap, ◌∙◌, subst}
use mathlib.Core.Bool.{Bool, true, false, cond}
use mathlib.Core.List.{List, [], ◌∷◌}
use Prim.Native.Nat.{ℕ, zero, suc, ◌+◌, ◌*◌, ◌≤◌, ◌<◌}
use native.Mathlib.Omega.{arith}
use lib.Dec.{leb, eqb}
use lib.ListN.{length, take, drop, length-drop}
use lib.Seq.{drop-drop}
use borrow.Author.Tests.{leb-true}
use Rattle.kinds.specs.Last.{Last}
use Rattle.std.specs.Prelude.{None, Some}
use Rattle.kinds.specs.Answers.{Answer, bad_magic, unknown_version, corrupt}
use Rattle.rules.specs.Ids.{same}
use Rattle.rules.specs.Ladder.{buckets}
use Rattle.rules.specs.Bytes.{le}
use Rattle.rules.specs.Estimator.{Estimator}
use Rattle.format.specs.Parts.{Read, stopped, got, Part, and_then, ◌>>=◌, ◌>>◌, give, refuse, must, takes, number, Parsed, bad, good, begun, ended, is_read}
use Rattle.format.specs.File.{Version, magic, rates, height_length, Rows, Tables, read_flagged, read_last, read_bucket_count, with_bucket_count, read_start, read_after, read_head, read_buckets, read_tables, read_file, read_history}
use Rattle.format.proofs.Back.{rates_length}
use Rattle.codec.specs.Places.{buckets_size}
use Rattle.codec.proofs.Tells.{then_got, then_stopped, Tells, too_short}
use Rattle.codec.proofs.Rated.{both_rows, tells_buckets, takes_buckets, buckets_fine}
use Rattle.parse.specs.Says.{head_size}

-- ---- how many bytes the header takes

-- after m bytes: nothing is read, or a is, and with its bytes they are g a
data TookBy {A : Type 0} (m : ℕ) (g : A → ℕ) (s : List ℕ) : Read A → Type 0 where
  no_more : {why : Answer} → TookBy m g s (stopped why)
  so_many : {a : A} (n : ℕ) → n ≤ length s → m + n ≡ g a → TookBy m g s (got a (drop n s))

record Follows {A : Type 0} (p : Part A) (m : ℕ) (g : A → ℕ) : Type 0 where
  pub of : (s : List ℕ) → TookBy m g s (p s)

follows_give : {A : Type 0} (a : A) (m : ℕ) (g : A → ℕ) → m ≡ g a → Follows (give a) m g
unfolding give
follows_give a m g e = let z : m + 0 ≡ g a = omega arith in record { of = λ s. so_many 0 (omega arith) z }

follows_refuse : {A : Type 0} (why : Answer) (m : ℕ) (g : A → ℕ) → Follows (refuse why) m g
unfolding refuse
follows_refuse why m g = record { of = λ s. no_more }

follows_must : (t : Bool) (why : Answer) (m : ℕ) → Follows (must t why) m (λ _. m)
unfolding must
follows_must true why m = record { of = λ s. so_many 0 (omega arith) (omega arith) }
follows_must false why m = record { of = λ s. no_more }

follows_takes : (n m : ℕ) → Follows (takes n) m (λ _. m + n)
unfolding takes
follows_takes n m = record { of = λ s. go s (leb n (length s)) refl }
  where
    go : (s : List ℕ) (b : Bool) → leb n (length s) ≡ b → TookBy m (λ _. m + n) s (cond b (got (take n s) (drop n s)) (stopped corrupt))
    go s true e = so_many n (leb-true n (length s) e) refl
    go s false e = no_more

follows_then : {A B : Type 0} (p : Part A) (k : A → Part B) (m : ℕ) (f : A → ℕ) (g : B → ℕ) → Follows p m f → ((a : A) → Follows (k a) (f a) g) → Follows (p >>= k) m g
unfolding ◌>>=◌
follows_then {A} {B} p k m f g h j = record { of = λ s. go s (p s) (h.of s) }
  where
    on : (s : List ℕ) (a : A) (n : ℕ) → n ≤ length s → m + n ≡ f a → (r : Read B) → TookBy (f a) g (drop n s) r → TookBy m g s r
    on s a n l e (stopped why) no_more = no_more
    on s a n l e (got b _) (so_many i o q) =
        let w : n + i ≤ length s = omega (arith, length-drop n s) in
        let v : m + (n + i) ≡ g b = omega arith in
        subst (λ (t : List ℕ). TookBy m g s (got b t)) (sym (drop-drop i n s)) (so_many (n + i) w v)

    go : (s : List ℕ) (r : Read A) → TookBy m f s r → TookBy m g s (and_then r k)
    go s (stopped why) no_more = no_more
    go s (got a _) (so_many n l e) = on s a n l e (k a (drop n s)) ((j a).of (drop n s))

follows_next : {A B : Type 0} (p : Part A) (q : Part B) (m n : ℕ) (g : B → ℕ) → Follows p m (λ _. n) → Follows q n g → Follows (p >> q) m g
unfolding ◌>>◌ ◌>>=◌
follows_next p q m n g h j = record { of = λ s. (follows_then p (λ _. q) m (λ _. n) g h (λ _. j)).of s }

follows_number : (n m : ℕ) → Follows (number n) m (λ _. m + n)
unfolding number
follows_number n m = follows_then (takes n) (λ bs. give (le bs)) m (λ _. m + n) (λ _. m + n) (follows_takes n m) (λ bs. follows_give (le bs) (m + n) (λ _. m + n) refl)

follows_flagged : (m n : ℕ) → Follows (read_flagged n) m (λ l. m + height_length l)
unfolding read_flagged
follows_flagged m zero = follows_give None m (λ l. m + height_length l) (omega arith)
follows_flagged m (suc zero) =
    follows_then (number 4) _ m (λ _. m + 4) (λ l. m + height_length l) (follows_number 4 m) (λ h. follows_give (Some (record { 0 = h })) (m + 4) (λ l. m + height_length l) refl)
follows_flagged m (suc (suc n)) = follows_refuse corrupt m (λ l. m + height_length l)

follows_with : (m : ℕ) (g : Last → ℕ) (l : Last) → m + 4 ≡ g l → Follows (with_bucket_count l) m g
unfolding with_bucket_count read_bucket_count
follows_with m g l e =
    follows_next read_bucket_count (give l) m (m + 4) g
    (follows_then (number 4) (λ n. must (eqb n buckets) corrupt) m (λ _. m + 4) (λ _. m + 4) (follows_number 4 m) (λ n. follows_must (eqb n buckets) corrupt (m + 4)))
    (follows_give l (m + 4) g e)

follows_after : (v : Version) (m : ℕ) → Follows (read_after v) m (λ _. m + length v.after)
unfolding read_after
follows_after v m =
    let n = m + length v.after in
    follows_then (takes (length v.after)) (λ b. must (same b v.after) corrupt) m (λ _. n) (λ _. n) (follows_takes (length v.after) m) (λ b. follows_must (same b v.after) corrupt n)

follows_head : (v : Version) → Follows (read_head v) 0 (λ l. head_size v l)
unfolding read_head read_start read_last
follows_head v =
    let g : Last → ℕ = λ l. head_size v l in
    let m = 12 + length v.after in
    follows_then (takes 8) _ 0 (λ _. 8) g (follows_takes 8 0)
    (λ b. follows_next (must (same b magic) bad_magic) _ 8 8 g (follows_must (same b magic) bad_magic 8)
    (follows_then (number 4) _ 8 (λ _. 12) g (follows_number 4 8)
    (λ n. follows_next (must (eqb n v.number) (unknown_version n)) _ 12 12 g (follows_must (eqb n v.number) (unknown_version n) 12)
    (follows_next (read_after v) read_start 12 m g (follows_after v 12)
    (follows_then read_last with_bucket_count m (λ l. m + 1 + height_length l) g
    (follows_then (number 1) read_flagged m (λ _. m + 1) (λ l. m + 1 + height_length l) (follows_number 1 m) (follows_flagged (m + 1)))
    (λ l. follows_with (m + 1 + height_length l) g l (omega arith)))))))

-- ---- what was read, put together

-- what was read and its tables, together
abbrev pub together : Last → Rows → Tables → Estimator
together last rows tables = record { last = last; pending = tables.pending; recent = tables.recent; confirmed = rows.confirmed; resolved = rows.resolved }

unfoldable pub with_tables : Last → Rows → Parsed Tables → Parsed Estimator
with_tables last rows (bad why) = bad why
with_tables last rows (good t) = good (together last rows t)

finish : (last : Last) (rows : Rows) (r : Read Tables) → ended (and_then r (λ tables. give (together last rows tables))) ≡ with_tables last rows (ended r)
unfolding ended with_tables give
finish last rows (stopped why) = refl
finish last rows (got t []) = refl
finish last rows (got t (b ∷ s)) = refl

-- ---- a file of version v

module _ (v : Version) where
  -- a header that is read, and where it ends
  pub record Headed (s : List ℕ) (last : Last) : Type 0 where
    pub room : head_size v last ≤ length s
    pub read : read_head v s ≡ got last (drop (head_size v last) s)

  pub headed : (s : List ℕ) (last : Last) → begun (read_head v s) ≡ good last → Headed s last
  unfolding begun
  headed s last h = go (read_head v s) refl ((follows_head v).of s) h
    where
      on : (l : Last) → l ≡ last → (n : ℕ) → n ≤ length s → 0 + n ≡ head_size v l → read_head v s ≡ got l (drop n s) → Headed s last
      on l e n o q r =
          let m : n ≡ head_size v last = omega (arith, ap height_length e) in
          record { room = omega arith; read = r ∙ ap (λ (i : ℕ). got l (drop i s)) m ∙ ap (λ (x : Last). got x (drop (head_size v last) s)) e }

      go : (r : Read Last) → read_head v s ≡ r → TookBy 0 (λ l. head_size v l) s r → begun r ≡ good last → Headed s last
      go (stopped why) e no_more h = let z : ◌≡◌ {A = ℕ} 0 1 = cc in absurd (omega arith)
      go (got l _) e (so_many n o q) h = on l (cc) n o q e

  -- ---- the rest of the file

  pub head_refused : (s : List ℕ) (why : Answer) → begun (read_head v s) ≡ bad why → read_history v s ≡ bad why
  unfolding begun read_history read_file ended
  head_refused s why h = go (read_head v s) refl h
    where
      go : (r : Read Last) → read_head v s ≡ r → begun r ≡ bad why → ended (read_file v s) ≡ bad why
      go (stopped w) e h =
          let q : w ≡ why = cc in
          ap ended (then_stopped (read_head v) (λ last. read_buckets rates >>= (λ rows. read_tables v >>= (λ tables. give (together last rows tables)))) e) ∙ ap bad q
      go (got l t) e h = let z : ◌≡◌ {A = ℕ} 0 1 = cc in absurd (omega arith)

  module _ (s : List ℕ) (last : Last) (h : Headed s last) (at : ℕ) (e : at ≡ head_size v last) where
    after_head : read_file v s ≡ (read_buckets rates >>= (λ rows. read_tables v >>= (λ tables. give (together last rows tables)))) (drop at s)
    unfolding read_file
    after_head = then_got (read_head v) _ h.read ∙ ap (λ (n : ℕ). (read_buckets rates >>= (λ rows. read_tables v >>= (λ tables. give (together last rows tables)))) (drop n s)) (sym e)

    pub file_short : length s < at + buckets_size → read_history v s ≡ bad corrupt
    unfolding read_history ended
    file_short k =
        let r : 408 * length rates ≡ buckets_size = ap (λ (n : ℕ). 408 * n) rates_length in
        let l : length (drop at s) < 408 * length rates = rw length-drop (omega (arith, h.room)) in
        ap ended (after_head ∙ then_stopped (read_buckets rates) _ (too_short (read_buckets rates) _ (takes_buckets rates) (drop at s) l))

    told : at + buckets_size ≤ length s → Tells (read_buckets rates) (drop at s) (buckets_fine rates s at) (both_rows buckets s at) (drop (at + buckets_size) s)
    told k = subst (λ (n : ℕ). Tells (read_buckets rates) (drop at s) (buckets_fine rates s at) (both_rows n s at) (drop (at + 408 * n) s)) rates_length (tells_buckets rates s at (omega (arith, rates_length)))

    pub file_bad : at + buckets_size ≤ length s → is_read (read_buckets rates (drop at s)) ≡ false → read_history v s ≡ bad corrupt
    unfolding read_history ended is_read
    file_bad k f = go (buckets_fine rates s at) (told k).is
      where
        go : (b : Bool) → read_buckets rates (drop at s) ≡ cond b (got (both_rows buckets s at) (drop (at + buckets_size) s)) (stopped corrupt) → ended (read_file v s) ≡ bad corrupt
        go true q = let z : ◌≡◌ {A = Bool} true false = sym (ap is_read q) ∙ f in let y : ◌≡◌ {A = ℕ} 0 1 = cc in absurd (omega arith)
        go false q = ap ended (after_head ∙ then_stopped (read_buckets rates) _ q)

    pub file_tables : at + buckets_size ≤ length s → is_read (read_buckets rates (drop at s)) ≡ true
        → read_history v s ≡ with_tables last (both_rows buckets s at) (ended (read_tables v (drop (at + buckets_size) s)))
    unfolding read_history ended is_read ◌>>=◌
    file_tables k f = go (buckets_fine rates s at) (told k).is
      where
        go : (b : Bool) → read_buckets rates (drop at s) ≡ cond b (got (both_rows buckets s at) (drop (at + buckets_size) s)) (stopped corrupt) → ended (read_file v s) ≡ with_tables last (both_rows buckets s at) (ended (read_tables v (drop (at + buckets_size) s)))
        go true q = ap ended (after_head ∙ then_got (read_buckets rates) _ q) ∙ finish last (both_rows buckets s at) (read_tables v (drop (at + buckets_size) s))
        go false q = let z : ◌≡◌ {A = Bool} false true = sym (ap is_read q) ∙ f in let y : ◌≡◌ {A = ℕ} 0 1 = cc in absurd (omega arith)
