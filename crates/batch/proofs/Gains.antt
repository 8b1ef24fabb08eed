-- Gains commute: each adds the same 1.0 to the counts of its own columns, so a count that both gain in is the same sum either way. So counting some records
-- and then others is counting all of them in table order. Assumes nothing.
use mathlib.Core.Path.{◌≡◌, refl, sym, ap, ap₂, ◌∙◌}
use mathlib.Core.Bool.{Bool, true, false, not, ◌&&◌, ◌||◌, cond}
use mathlib.Core.List.{List, [], ◌∷◌}
use Prim.Native.Nat.{ℕ, suc, ◌/◌, ◌%◌}
use lib.Dec.{eqb}
use lib.Ieee.{Float}
use Rattle.rules.specs.Lists.{keep, places}
use Rattle.rules.specs.Counts.{Counts, columns, one_more, gain}
use Rattle.rules.specs.Board.{Pending}
use Rattle.batch.specs.Batch.{gains}

-- one more where either test says so, in either order
twice : (s t : Bool) (x : Float) → cond s (one_more (cond t (one_more x) x)) (cond t (one_more x) x) ≡ cond t (one_more (cond s (one_more x) x)) (cond s (one_more x) x)
twice true true x = refl
twice true false x = refl
twice false true x = refl
twice false false x = refl

gain_commute : (a : ℕ) (p : ℕ → Bool) (b : ℕ) (q : ℕ → Bool) (xs : Counts) → gain a p (gain b q xs) ≡ gain b q (gain a p xs)
unfolding gain places
gain_commute a p b q xs = go 0 xs
  where
    go : (n : ℕ) (xs : Counts)
        → places (λ n x. cond (eqb (n / columns) a && p (suc (n % columns))) (one_more x) x) n (places (λ n x. cond (eqb (n / columns) b && q (suc (n % columns))) (one_more x) x) n xs)
        ≡ places (λ n x. cond (eqb (n / columns) b && q (suc (n % columns))) (one_more x) x) n (places (λ n x. cond (eqb (n / columns) a && p (suc (n % columns))) (one_more x) x) n xs)
    go n [] = refl
    go n (x ∷ xs) = ap₂ {C = Counts} (λ y ys. y ∷ ys) (twice (eqb (n / columns) a && p (suc (n % columns))) (eqb (n / columns) b && q (suc (n % columns))) x) (go (suc n) xs)

module _ (test : Pending → ℕ → Bool) where
  -- a record may be counted after the others as well as before them
  gains_last : (r : Pending) (rs : List Pending) (xs : Counts) → gains test rs (gain r.bucket (test r) xs) ≡ gain r.bucket (test r) (gains test rs xs)
  unfolding gains
  gains_last r [] xs = refl
  gains_last r (q ∷ rs) xs = ap (gains test rs) (gain_commute q.bucket (test q) r.bucket (test r) xs) ∙ gains_last r rs (gain q.bucket (test q) xs)

  -- some, and then others
  pub gains_both : (a b : Pending → Bool) (rs : List Pending) (xs : Counts) → gains test (keep (λ r. not (a r) && b r) rs) (gains test (keep a rs) xs) ≡ gains test (keep (λ r. a r || b r) rs) xs
  unfolding keep gains
  gains_both a b [] xs = refl
  gains_both a b (r ∷ rs) xs = go (a r) (b r) (gains_both a b rs)
    where
      others : List Pending
      others = keep (λ r. not (a r) && b r) rs

      go : (s t : Bool) → ((ys : Counts) → gains test others (gains test (keep a rs) ys) ≡ gains test (keep (λ r. a r || b r) rs) ys)
          → gains test (cond (not s && t) (r ∷ others) others) (gains test (cond s (r ∷ keep a rs) (keep a rs)) xs) ≡ gains test (cond (s || t) (r ∷ keep (λ r. a r || b r) rs) (keep (λ r. a r || b r) rs)) xs
      go true t h = h (gain r.bucket (test r) xs)
      go false true h = ap (gains test others) (sym (gains_last r (keep a rs) xs)) ∙ h (gain r.bucket (test r) xs)
      go false false h = h xs
