-- What the parts of a file read at a place of its bytes, as code reads them: a test decides whether a part is read or corrupt, and how many bytes it takes.
-- Assumes nothing.
use mathlib.Core.Path.{◌≡◌, refl, sym, ap, ◌∙◌, subst}
use mathlib.Core.Bool.{Bool, true, false, ◌&&◌, cond}
use mathlib.Core.List.{List, [], ◌∷◌}
use Prim.Native.Nat.{ℕ, zero, suc, ◌+◌, ◌*◌, ◌≤◌, ◌<◌}
use native.Mathlib.Nat.{add-zero, zero-mul, suc-mul}
use native.Mathlib.Omega.{arith}
use lib.Dec.{leb}
use lib.ListN.{length, take, drop, length-drop}
use lib.Seq.{drop-drop}
use borrow.Author.Tests.{le-leb, lt-leb, leb-true}
use Rattle.kinds.specs.Answers.{Answer, corrupt}
use Rattle.rules.specs.Bytes.{le}
use Rattle.mem.specs.Le.{le_at}
use Rattle.format.specs.Parts.{Read, stopped, got, Part, and_then, ◌>>=◌, ◌>>◌, give, must, takes, number, times, is_read}

-- ---- one step

module _ {A B : Type 0} (p : Part A) (k : A → Part B) {s : List ℕ} where
  pub then_got : {a : A} {t : List ℕ} → p s ≡ got a t → (p >>= k) s ≡ k a t
  unfolding ◌>>=◌
  then_got h = ap (λ (r : Read A). and_then r k) h

  pub then_stopped : {why : Answer} → p s ≡ stopped why → (p >>= k) s ≡ stopped why
  unfolding ◌>>=◌
  then_stopped h = ap (λ (r : Read A). and_then r k) h

module _ {B : Type 0} (t : Bool) (why : Answer) (q : Part B) (s : List ℕ) where
  pub must_yes : t ≡ true → (must t why >> q) s ≡ q s
  unfolding must ◌>>◌
  must_yes h = rw h

  pub must_no : t ≡ false → (must t why >> q) s ≡ stopped why
  unfolding must ◌>>◌
  must_no h = rw h

pub takes_full : (n : ℕ) (s : List ℕ) → n ≤ length s → takes n s ≡ got (take n s) (drop n s)
unfolding takes
takes_full n s h = rw (le-leb n (length s) h)

pub takes_short : (n : ℕ) (s : List ℕ) → length s < n → takes n s ≡ stopped corrupt
unfolding takes
takes_short n s h = rw (lt-leb n (length s) h)

pub number_at : (n : ℕ) (s : List ℕ) (at : ℕ) → at + n ≤ length s → number n (drop at s) ≡ got (le_at n s at) (drop (at + n) s)
unfolding number give
number_at n s at h = then_got (takes n) _ (takes_full n (drop at s) (simp length-drop (omega arith))) ∙ ap (λ (t : List ℕ). got (le (take n (drop at s))) t) (drop-drop n at s)

pub number_short : (n : ℕ) (s : List ℕ) (at : ℕ) → at ≤ length s → length s < at + n → number n (drop at s) ≡ stopped corrupt
unfolding number
number_short n s at k h = then_stopped (takes n) _ (takes_short n (drop at s) (simp length-drop (omega arith)))

-- ---- parts that are stopped only as corrupt

-- Part p, at the bytes s, reads a and leaves t if the test b passes, and is corrupt otherwise.
pub record Tells {A : Type 0} (p : Part A) (s : List ℕ) (b : Bool) (a : A) (t : List ℕ) : Type 0 where
  pub is : p s ≡ cond b (got a t) (stopped corrupt)

module _ {A : Type 0} where
  pub tells_give : (a : A) (s : List ℕ) → Tells (give a) s true a s
  unfolding give
  tells_give a s = record { is = refl }

  pub tells_must : (b : Bool) (a : A) (s : List ℕ) → Tells (must b corrupt >> give a) s b a s
  unfolding must ◌>>◌ give
  tells_must true a s = record { is = refl }
  tells_must false a s = record { is = refl }

  pub tells_if : (b : Bool) {c : Bool} (q : Part A) {a : A} {s t : List ℕ} → Tells q s c a t → Tells (must b corrupt >> q) s (b && c) a t
  unfolding must ◌>>◌
  tells_if true q h = record { is = h.is }
  tells_if false q h = record { is = refl }

  pub tells_to : {p : Part A} {s : List ℕ} {b : Bool} {a : A} (l : List ℕ) {m n : ℕ} → m ≡ n → Tells p s b a (drop m l) → Tells p s b a (drop n l)
  tells_to {p} {s} {b} {a} l e h = record { is = h.is ∙ ap (λ (k : ℕ). cond b (got a (drop k l)) (stopped corrupt)) e }

pub tells_then : {A B : Type 0} {p : Part A} (k : A → Part B) {s t u : List ℕ} {b c : Bool} {a : A} {x : B}
    → Tells p s b a t → Tells (k a) t c x u → Tells (p >>= k) s (b && c) x u
unfolding ◌>>=◌
tells_then k {b = true} h g = record { is = ap (λ (r : Read _). and_then r k) h.is ∙ g.is }
tells_then k {b = false} h g = record { is = ap (λ (r : Read _). and_then r k) h.is }

pub tells_last : {A B : Type 0} {p : Part A} (f : A → B) {s t : List ℕ} {b : Bool} {a : A} → Tells p s b a t → Tells (p >>= (λ c. give (f c))) s b (f a) t
unfolding ◌>>=◌ give
tells_last f {b = true} h = record { is = ap (λ (r : Read _). and_then r (λ c. give (f c))) h.is }
tells_last f {b = false} h = record { is = ap (λ (r : Read _). and_then r (λ c. give (f c))) h.is }

pub tells_takes : (n : ℕ) (s : List ℕ) → n ≤ length s → Tells (takes n) s true (take n s) (drop n s)
tells_takes n s h = record { is = takes_full n s h }

pub tells_number : (n : ℕ) (s : List ℕ) (at : ℕ) → at + n ≤ length s → Tells (number n) (drop at s) true (le_at n s at) (drop (at + n) s)
tells_number n s at h = record { is = number_at n s at h }

-- a part is read where its test passes
pub read_told : {A : Type 0} {p : Part A} {s t : List ℕ} {b : Bool} {a : A} → Tells p s b a t → is_read (p s) ≡ b
unfolding is_read
read_told {b = true} h = ap is_read h.is
read_told {b = false} h = ap is_read h.is

-- ---- how many bytes a part takes

pub data Took {A : Type 0} (n : ℕ) (s : List ℕ) : Read A → Type 0 where
  nothing : Took n s (stopped corrupt)
  took : {a : A} → n ≤ length s → Took n s (got a (drop n s))

-- p is corrupt, or takes n bytes
pub record Takes {A : Type 0} (p : Part A) (n : ℕ) : Type 0 where
  pub of : (s : List ℕ) → Took n s (p s)

pub too_short : {A : Type 0} (p : Part A) (n : ℕ) → Takes p n → (s : List ℕ) → length s < n → p s ≡ stopped corrupt
too_short {A} p n h s k = go (p s) (h.of s)
  where
    go : (r : Read A) → Took n s r → r ≡ stopped corrupt
    go (stopped _) nothing = refl
    go (got a _) (took l) = absurd (omega arith)

pub takes_give : {A : Type 0} (a : A) → Takes (give a) 0
unfolding give
takes_give a = record { of = λ s. took (omega arith) }

pub takes_takes : (n : ℕ) → Takes (takes n) n
unfolding takes
takes_takes n = record { of = λ s. go s (leb n (length s)) refl }
  where
    go : (s : List ℕ) (b : Bool) → leb n (length s) ≡ b → Took n s (cond b (got (take n s) (drop n s)) (stopped corrupt))
    go s true e = took (leb-true n (length s) e)
    go s false e = nothing

pub takes_must : (b : Bool) → Takes (must b corrupt) 0
unfolding must
takes_must true = record { of = λ s. took (omega arith) }
takes_must false = record { of = λ s. nothing }

pub takes_if : {A : Type 0} (b : Bool) {q : Part A} {n : ℕ} → Takes q n → Takes (must b corrupt >> q) n
unfolding must ◌>>◌
takes_if true h = record { of = λ s. h.of s }
takes_if false h = record { of = λ s. nothing }

pub takes_then : {A B : Type 0} {p : Part A} (k : A → Part B) {m n : ℕ} → Takes p m → ((a : A) → Takes (k a) n) → Takes (p >>= k) (m + n)
unfolding ◌>>=◌
takes_then {A} {B} {p} k {m} {n} h g = record { of = λ s. go s (p s) (h.of s) }
  where
    more : (s : List ℕ) → m ≤ length s → (r : Read B) → Took n (drop m s) r → Took (m + n) s r
    more s l (stopped _) nothing = nothing
    more s l (got a _) (took j) = subst (λ (t : List ℕ). Took (m + n) s (got a t)) (sym (drop-drop n m s)) (took (omega (arith, length-drop m s)))

    go : (s : List ℕ) (r : Read A) → Took m s r → Took (m + n) s (and_then r k)
    go s (stopped _) nothing = nothing
    go s (got a _) (took l) = more s l (k a (drop m s)) ((g a).of (drop m s))

-- the same under another name of the number
pub takes_as : {A : Type 0} {p : Part A} {m n : ℕ} → m ≡ n → Takes p m → Takes p n
takes_as {p = p} e h = subst (λ (k : ℕ). Takes p k) e h

pub takes_number : (n : ℕ) → Takes (number n) n
unfolding number
takes_number n = takes_as (add-zero n) (takes_then _ (takes_takes n) (λ bs. takes_give (le bs)))

pub takes_times : {A : Type 0} {p : Part A} {m : ℕ} (n : ℕ) → Takes p m → Takes (times n p) (n * m)
unfolding times
takes_times {m = m} zero h = takes_as (sym (zero-mul m)) (takes_give [])
takes_times {m = m} (suc n) h =
    let e : m + (n * m + 0) ≡ suc n * m = omega (arith, suc-mul n m) in
    takes_as e (takes_then _ h (λ a. takes_then _ (takes_times n h) (λ rest. takes_give (a ∷ rest))))
