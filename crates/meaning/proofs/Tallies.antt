-- What one more event does to a tally: at the heights before it nothing, and a block's own tally is what it finds due. Assumes nothing.
use mathlib.Core.Path.{◌≡◌, refl, ap, ◌∙◌, fun_ext}
use mathlib.Core.Bool.{Bool, false, ◌&&◌}
use mathlib.Core.List.{List, ◌∷◌, map}
use Prim.Native.Nat.{ℕ, ◌*◌, ◌<◌}
use native.Mathlib.Omega.{arith}
use lib.Dec.{eqb}
use Rattle.rules.specs.Lists.{bit, count}
use Rattle.rules.specs.Ids.{Id}
use Rattle.rules.specs.Ladder.{bucket_index}
use Rattle.rules.specs.Board.{Board}
use Rattle.meaning.specs.Runs.{Event, arrival, removal, block, Log, begin, ◌▸◌}
use Rattle.meaning.specs.Fates.{Admission, later, admissions, fate, fate_of, waits, Kind, counted_at, counts_in, tally, stored}
use Rattle.lists.proofs.Counting.{count_all, count_ext, count_map}
use Rattle.meaning.proofs.Counting.{all_then}
use Rattle.meaning.proofs.Living.{Under, all_under, and_false, Elsewhere, counts, after_other, at_block}

-- the admissions after one more event
abbrev newly : Event → List Admission → List Admission
newly (arrival i rate e) xs = record { id = i; bucket = bucket_index rate; entry = e; since = begin } ∷ map (later (arrival i rate e)) xs
newly (removal i) xs = map (later (removal i)) xs
newly (block ids h) xs = map (later (block ids h)) xs

admissions_newly : (l : Log) (v : Event) → admissions (l ▸ v) ≡ newly v (admissions l)
unfolding admissions
admissions_newly l (arrival i rate e) = refl
admissions_newly l (removal i) = refl
admissions_newly l (block ids h) = refl

-- a test that an arrival does not pass, and that one more event does not change, passes as many as before
pub same_count : (p : Admission → Bool) (l : Log) (v : Event) → ((a : Admission) → p (later v a) ≡ p a) → ((i : Id) (b e : ℕ) → p (record { id = i; bucket = b; entry = e; since = begin }) ≡ false)
    → count p (admissions (l ▸ v)) ≡ count p (admissions l)
unfolding count
same_count p l v f n = ap (count p) (admissions_newly l v) ∙ go v ∙ count_map p (later v) (admissions l) ∙ count_ext (λ a. p (later v a)) p f (admissions l)
  where
    go : (w : Event) → count p (newly w (admissions l)) ≡ count p (map (later w) (admissions l))
    go (arrival i rate e) = omega (arith, ap bit (n i (bucket_index rate) e))
    go (removal i) = refl
    go (block ids h) = refl

-- a block is above the heights of the log
abbrev Next : Event → Log → Type 0
Next (arrival i rate e) l = Unit {0}
Next (removal i) l = Unit {0}
Next (block ids h) l = Under h l

module _ (which : Kind) (k : Board) (b c : ℕ) where
  pub same_tally : (l : Log) (v : Event) (g : ℕ) → Elsewhere g v → tally which k (admissions (l ▸ v)) b c g ≡ tally which k (admissions l) b c g
  unfolding tally counts_in fate_of fate counted_at
  same_tally l v g d =
      same_count (counts_in which k b c g) l v (λ a. rw (after_other which a.id a.entry (k.width * c) g a.since v d)) (λ i d e. simp and_false)

  below_only : (m n : ℕ → ℕ) (h : ℕ) (l : Log) → Under h l → ((g : ℕ) → g < h → m g ≡ n g) → stored k m l ≡ stored k n l
  unfolding stored
  below_only m n h begin u f = refl
  below_only m n h (l ▸ arrival i rate e) u f = below_only m n h l u f
  below_only m n h (l ▸ removal i) u f = below_only m n h l u f
  below_only m n h (l ▸ block ids g) u f = rw (f g u.0, below_only m n h l u.1 f)

  -- what was stored up to the event v stays as it was
  pub same_stored : (l : Log) (v : Event) → Next v l → stored k (tally which k (admissions (l ▸ v)) b c) l ≡ stored k (tally which k (admissions l) b c) l
  same_stored l (arrival i rate e) u = ap (λ (n : ℕ → ℕ). stored k n l) (fun_ext (λ g. same_tally l (arrival i rate e) g tt))
  same_stored l (removal i) u = ap (λ (n : ℕ → ℕ). stored k n l) (fun_ext (λ g. same_tally l (removal i) g tt))
  same_stored l (block ids h) u = below_only _ _ h l u (λ g q. same_tally l (block ids h) g (λ z. omega arith))

  -- what a block counts: those in the bucket that wait, and that it lists or whose time has come
  abbrev pub due : List Id → ℕ → Admission → Bool
  due ids h a = eqb b a.bucket && (waits (fate_of k c a) && counts which a.id a.entry (k.width * c) ids h)

  pub now_due : (l : Log) (ids : List Id) (h : ℕ) → Under h l → tally which k (admissions (l ▸ block ids h)) b c h ≡ count (due ids h) (admissions l)
  unfolding fate_of tally counts_in admissions
  now_due l ids h u = count_map (counts_in which k b c h) (later (block ids h)) (admissions l)
      ∙ count_all (λ a. counts_in which k b c h (later (block ids h) a)) (due ids h)
      (all_then (λ a v. ap (λ (y : Bool). eqb b a.bucket && y) (at_block which a.id a.entry (k.width * c) h a.since ids v)) (all_under h l u))
