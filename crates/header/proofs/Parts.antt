-- What the parts of the header read, case by case. No contract cites this file. Assumes nothing.
use mathlib.Core.Path.{◌≡◌, refl, sym, ap, ◌∙◌}
use mathlib.Core.List.{List}
use mathlib.Core.Bool.{Bool, true, false, cond}
use Prim.Native.Nat.{ℕ, zero, suc, ◌+◌, ◌≤◌, ◌<◌}
use native.Mathlib.Nat.{add-zero}
use native.Mathlib.Omega.{arith}
use borrow.Author.Tests.{eq-eqb, ne_eqb, le-leb}
use lib.Dec.{T, eqb}
use lib.Pow.{are_bytes}
use lib.ListN.{length, take, drop, get_or, length-drop}
use Rattle.kinds.specs.Last.{Last}
use Rattle.std.specs.Prelude.{None, Some}
use Rattle.kinds.specs.Answers.{bad_magic, unknown_version, corrupt}
use Rattle.rules.specs.Ids.{same}
use Rattle.rules.specs.Ladder.{buckets}
use Rattle.format.specs.Parts.{Read, stopped, got, ◌>>=◌, ◌>>◌, and_then, give, refuse, must, takes, number, bad, good, begun, is_read}
use Rattle.mem.specs.Le.{le_at}
use Rattle.format.specs.File.{Version, version_1, version_3, magic, read_flagged, read_last, read_bucket_count, with_bucket_count, read_start, read_after, read_head}
use lib.Seq.{drop-drop}
use Rattle.rules.specs.Bytes.{le, bytes}
use Rattle.mem.proofs.Laws.{le_at_next}
use Rattle.codec.proofs.Tells.{then_got, then_stopped, must_yes, must_no, takes_full, takes_short, number_at, number_short, Took, nothing, took, Takes, takes_as, takes_takes, takes_then, takes_number, takes_must}
use Rattle.header.proofs.Same.{is_number}

read_must : (b : Bool) (t : List ℕ) → is_read (must b corrupt t) ≡ b
unfolding is_read must
read_must true t = refl
read_must false t = refl

takes_after : (v : Version) → Takes (read_after v) (length v.after)
unfolding read_after
takes_after v = takes_as (add-zero (length v.after)) (takes_then _ (takes_takes (length v.after)) (λ b. takes_must (same b v.after)))

-- ---- the bucket count

count_short : (s : List ℕ) (at : ℕ) → at ≤ length s → length s < at + 4 → is_read (read_bucket_count (drop at s)) ≡ false
unfolding read_bucket_count is_read
count_short s at h k = ap is_read (then_stopped (number 4) _ (number_short 4 s at h k))

count_is : (s : List ℕ) (at : ℕ) → at + 4 ≤ length s → is_read (read_bucket_count (drop at s)) ≡ eqb (le_at 4 s at) 142
unfolding read_bucket_count
count_is s at h = ap is_read (then_got (number 4) _ (number_at 4 s at h)) ∙ read_must (eqb (le_at 4 s at) 142) (drop (at + 4) s)

takes_bucket_count : Takes read_bucket_count 4
unfolding read_bucket_count
takes_bucket_count = takes_then _ (takes_number 4) (λ n. takes_must (eqb n buckets))

with_is : (last : Last) (t : List ℕ) → begun (with_bucket_count last t) ≡ cond (is_read (read_bucket_count t)) (good last) (bad corrupt)
unfolding with_bucket_count ◌>>◌ begun is_read give
with_is last t = go (read_bucket_count t) (takes_bucket_count.of t)
  where
    go : (r : Read (Unit {0})) → Took 4 t r → begun (and_then r (λ _. give last)) ≡ cond (is_read r) (good last) (bad corrupt)
    go (stopped _) nothing = refl
    go (got a _) (took h) = refl

pub with_short : (last : Last) (s : List ℕ) (at : ℕ) → at ≤ length s → length s < at + 4 → begun (with_bucket_count last (drop at s)) ≡ bad corrupt
with_short last s at h k = with_is last (drop at s) ∙ rw (count_short s at h k)

pub with_count : (last : Last) (s : List ℕ) (at n : ℕ) → at + 4 ≤ length s → n ≡ le_at 4 s at → begun (with_bucket_count last (drop at s)) ≡ cond (eqb n 142) (good last) (bad corrupt)
with_count last s at n h e = with_is last (drop at s) ∙ rw (count_is s at h, e)

-- ---- after the version's number

-- version 1 has nothing there
pub after_one : (t : List ℕ) → is_read (read_after version_1 t) ≡ true
unfolding read_after ◌>>=◌ takes must same is_read
after_one t = rw (le-leb 0 (length t) (omega arith))

-- version 3 has a number of four bytes
pub after_short : (s : List ℕ) → 12 ≤ length s → length s < 16 → is_read (read_after version_3 (drop 12 s)) ≡ false
unfolding read_after is_read bytes
after_short s h k = ap is_read (then_stopped (takes 4) _ (takes_short 4 (drop 12 s) (simp length-drop (omega arith))))

pub after_three : (s : List ℕ) → 16 ≤ length s → T (are_bytes s) → is_read (read_after version_3 (drop 12 s)) ≡ eqb (le_at 4 s 12) 6
unfolding read_after is_read bytes
after_three s h b =
    let n : 4 ≤ length (drop 12 s) = simp length-drop (omega arith) in
    ap is_read (then_got (takes 4) _ (takes_full 4 (drop 12 s) n))
    ∙ read_must (same (take 4 (drop 12 s)) (bytes 4 6)) (drop 4 (drop 12 s))
    ∙ sym (is_number 4 6 s 12 (omega arith) b (omega arith))

-- whichever it is, so many bytes are there
pub after_room : (v : Version) (s : List ℕ) → 12 ≤ length s → is_read (read_after v (drop 12 s)) ≡ true → 12 + length v.after ≤ length s
unfolding is_read
after_room v s h r = go (read_after v (drop 12 s)) ((takes_after v).of (drop 12 s)) r
  where
    go : (x : Read (Unit {0})) → Took (length v.after) (drop 12 s) x → is_read x ≡ true → 12 + length v.after ≤ length s
    go (stopped _) nothing r = let z : ◌≡◌ {A = ℕ} 0 1 = cc in absurd (omega arith)
    go (got a _) (took k) r = omega (arith, length-drop 12 s)

-- ---- from the last height on

first_byte : (s : List ℕ) (at : ℕ) → at < length s → le_at 1 s at ≡ get_or s at 0
unfolding le
first_byte s at h = le_at_next 0 s at (at + 1) refl h ∙ omega arith

module _ (s : List ℕ) (at : ℕ) where
  pub no_flag : at ≤ length s → length s < at + 1 → read_start (drop at s) ≡ stopped corrupt
  unfolding read_start read_last
  no_flag h k = then_stopped read_last _ (then_stopped (number 1) _ (number_short 1 s at h k))

  flag_is : at + 1 ≤ length s → (n : ℕ) → get_or s at 0 ≡ n → read_last (drop at s) ≡ read_flagged n (drop (at + 1) s)
  unfolding read_last
  flag_is h n e = then_got (number 1) _ (number_at 1 s at h) ∙ ap (λ (k : ℕ). read_flagged k (drop (at + 1) s)) (first_byte s at (omega arith) ∙ e)

  pub flag_none : at + 1 ≤ length s → get_or s at 0 ≡ 0 → read_start (drop at s) ≡ with_bucket_count None (drop (at + 1) s)
  unfolding read_start read_flagged give
  flag_none h e = then_got read_last _ (flag_is h 0 e)

  pub flag_other : at + 1 ≤ length s → (get_or s at 0 ≡ 0 → ⊥) → (get_or s at 0 ≡ 1 → ⊥) → read_start (drop at s) ≡ stopped corrupt
  unfolding read_start read_flagged refuse
  flag_other h a b = then_stopped read_last _ (flag_is h (get_or s at 0) refl ∙ go (get_or s at 0) a b)
    where
      go : (n : ℕ) → (n ≡ 0 → ⊥) → (n ≡ 1 → ⊥) → read_flagged n (drop (at + 1) s) ≡ stopped corrupt
      go zero a b = absurd (a refl)
      go (suc zero) a b = absurd (b refl)
      go (suc (suc n)) a b = refl

  pub flag_short : at + 1 ≤ length s → get_or s at 0 ≡ 1 → length s < at + 5 → read_start (drop at s) ≡ stopped corrupt
  unfolding read_start read_flagged
  flag_short h e k = then_stopped read_last _ (flag_is h 1 e ∙ then_stopped (number 4) _ (number_short 4 s (at + 1) h (omega arith)))

  pub flag_at : at + 5 ≤ length s → get_or s at 0 ≡ 1 → read_start (drop at s) ≡ with_bucket_count (Some (record { 0 = le_at 4 s (at + 1) })) (drop (at + 5) s)
  unfolding read_start read_flagged give
  flag_at h e =
      let k : at + 1 + 4 ≡ at + 5 = omega arith in
      then_got read_last _ (flag_is (omega arith) 1 e ∙ then_got (number 4) _ (number_at 4 s (at + 1) (omega arith)))
      ∙ ap (λ (i : ℕ). with_bucket_count (Some (record { 0 = le_at 4 s (at + 1) })) (drop i s)) k

-- ---- from the first byte on

module _ (v : Version) (s : List ℕ) where
  pub head_short : length s < 8 → read_head v s ≡ stopped corrupt
  unfolding read_head
  head_short h = then_stopped (takes 8) _ (takes_short 8 s h)

  module _ (h : 8 ≤ length s) where
    pub head_other : same (take 8 s) magic ≡ false → read_head v s ≡ stopped bad_magic
    unfolding read_head
    head_other m = then_got (takes 8) _ (takes_full 8 s h) ∙ must_no _ bad_magic _ (drop 8 s) m

    module _ (m : same (take 8 s) magic ≡ true) where
      head_magic : read_head v s ≡ (number 4 >>= (λ n. must (eqb n v.number) (unknown_version n) >> (read_after v >> read_start))) (drop 8 s)
      unfolding read_head
      head_magic = then_got (takes 8) _ (takes_full 8 s h) ∙ must_yes _ bad_magic _ (drop 8 s) m

      pub head_no_version : length s < 12 → read_head v s ≡ stopped corrupt
      head_no_version k = head_magic ∙ then_stopped (number 4) _ (number_short 4 s 8 h k)

      module _ (l : 12 ≤ length s) where
        pub head_version : (le_at 4 s 8 ≡ v.number → ⊥) → read_head v s ≡ stopped (unknown_version (le_at 4 s 8))
        head_version n = head_magic ∙ then_got (number 4) _ (number_at 4 s 8 l) ∙ must_no _ (unknown_version (le_at 4 s 8)) _ (drop 12 s) (ne_eqb (le_at 4 s 8) v.number n)

        module _ (n : le_at 4 s 8 ≡ v.number) where
          head_after : read_head v s ≡ (read_after v >> read_start) (drop 12 s)
          head_after = head_magic ∙ then_got (number 4) _ (number_at 4 s 8 l) ∙ must_yes _ (unknown_version (le_at 4 s 8)) _ (drop 12 s) (eq-eqb (le_at 4 s 8) v.number n)

          -- the bytes after the number are others, or fewer
          pub head_width : is_read (read_after v (drop 12 s)) ≡ false → read_head v s ≡ stopped corrupt
          unfolding ◌>>◌ is_read
          head_width r = head_after ∙ go (read_after v (drop 12 s)) ((takes_after v).of (drop 12 s)) r
            where
              go : (x : Read (Unit {0})) → Took (length v.after) (drop 12 s) x → is_read x ≡ false → and_then x (λ _. read_start) ≡ stopped corrupt
              go (stopped _) nothing r = refl
              go (got a _) (took k) r = let z : ◌≡◌ {A = ℕ} 0 1 = cc in absurd (omega arith)

          pub head_rest : (at : ℕ) → at ≡ 12 + length v.after → is_read (read_after v (drop 12 s)) ≡ true → read_head v s ≡ read_start (drop at s)
          unfolding ◌>>◌ is_read
          head_rest at e r =
              head_after ∙ go (read_after v (drop 12 s)) ((takes_after v).of (drop 12 s)) r ∙ ap read_start (drop-drop (length v.after) 12 s ∙ ap (λ (i : ℕ). drop i s) (sym e))
            where
              go : (x : Read (Unit {0})) → Took (length v.after) (drop 12 s) x → is_read x ≡ true → and_then x (λ _. read_start) ≡ read_start (drop (length v.after) (drop 12 s))
              go (stopped _) nothing r = let z : ◌≡◌ {A = ℕ} 0 1 = cc in absurd (omega arith)
              go (got a _) (took k) r = refl
