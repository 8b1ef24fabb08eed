-- Records in order, of neighbours with one id the first: their ids rise strictly, and no id is lost. Assumes nothing.
use mathlib.Core.Path.{◌≡◌, refl, sym, ◌∙◌}
use mathlib.Core.Bool.{Bool, true, false, cond, ◌||◌}
use mathlib.Core.List.{List, [], ◌∷◌}
use Prim.Native.Nat.{ℕ, suc, ◌≤◌, zero-le, suc-le-suc}
use native.Mathlib.Omega.{arith}
use lib.ListN.{length}
use Rattle.rules.specs.Lists.{any}
use Rattle.rules.specs.Ids.{Id, same, below}
use Rattle.rules.specs.Records.{id_of}
use Rattle.rules.proofs.All.{All, none, more}
use Rattle.rules.proofs.Ids.{Up, end, step, same_eq, below_trans, below_other}
use Rattle.rules.proofs.Records.{Sized}
use Rattle.settle.specs.Once.{once_after, once}
use Rattle.sort.specs.Order.{Ordered, end as none-ordered, step as next-ordered}

-- ---- they rise

-- i is below all of them, and they rise
record Rises (i : Id) (rs : List (List ℕ)) : Type 0 where
  over : All (λ q. below i (id_of q) ≡ true) rs
  up : Up id_of rs

all_over : (i j : Id) {rs : List (List ℕ)} → below i j ≡ true → All (λ q. below j (id_of q) ≡ true) rs → All (λ q. below i (id_of q) ≡ true) rs
all_over i j h none = none
all_over i j h (more {a = q} k ks) = more (below_trans i j (id_of q) h k) (all_over i j h ks)

rises_after : (i : Id) {rs : List (List ℕ)} → All (λ q. below (id_of q) i ≡ false) rs → Ordered rs → Rises i (once_after i rs)
unfolding once_after
rises_after i none none-ordered = record { over = none; up = end }
rises_after i (more {a = r} {l = rs} h hs) (next-ordered a o) = go (same i (id_of r)) refl (rises_after i hs o) (rises_after (id_of r) a o)
  where
    go : (t : Bool) → same i (id_of r) ≡ t → Rises i (once_after i rs) → Rises (id_of r) (once_after (id_of r) rs) → Rises i (cond t (once_after i rs) (r ∷ once_after (id_of r) rs))
    go true e s n = s
    go false e s n = let b = below_other i (id_of r) e h in record { over = more b (all_over i (id_of r) b n.over); up = step n.over n.up }

pub up_once : {rs : List (List ℕ)} → Ordered rs → Up id_of (once rs)
unfolding once
up_once none-ordered = end
up_once (next-ordered {r} a o) = let n = rises_after (id_of r) a o in step n.over n.up

-- ---- no id is lost

or_twice : (a b : Bool) → (a || (a || b)) ≡ (a || b)
or_twice true b = refl
or_twice false b = refl

module _ (i : Id) where
  abbrev has : List (List ℕ) → Bool
  has rs = any (λ r. same (id_of r) i) rs

  has_after : (k : Id) (rs : List (List ℕ)) → (same k i || has (once_after k rs)) ≡ (same k i || has rs)
  unfolding once_after any
  has_after k [] = refl
  has_after k (r ∷ rs) = go (same k (id_of r)) refl (has_after k rs) (has_after (id_of r) rs)
    where
      go : (t : Bool) → same k (id_of r) ≡ t → (same k i || has (once_after k rs)) ≡ (same k i || has rs) → (same (id_of r) i || has (once_after (id_of r) rs)) ≡ (same (id_of r) i || has rs)
          → (same k i || has (cond t (once_after k rs) (r ∷ once_after (id_of r) rs))) ≡ (same k i || (same (id_of r) i || has rs))
      go true e s n = s ∙ rw (sym (same_eq k (id_of r) e)) (sym (or_twice (same k i) (has rs)))
      go false e s n = rw n

  pub has_once : (rs : List (List ℕ)) → has (once rs) ≡ has rs
  unfolding once any
  has_once [] = refl
  has_once (r ∷ rs) = has_after (id_of r) rs

-- ---- and each has its size

module _ (size : ℕ) where
  sized_after : (i : Id) (rs : List (List ℕ)) → Sized size rs → Sized size (once_after i rs)
  unfolding once_after Sized
  sized_after i [] s = s
  sized_after i (r ∷ rs) s = go (same i (id_of r)) (sized_after i rs s.1) (sized_after (id_of r) rs s.1)
    where
      go : (t : Bool) → Sized size (once_after i rs) → Sized size (once_after (id_of r) rs) → Sized size (cond t (once_after i rs) (r ∷ once_after (id_of r) rs))
      go true a b = a
      go false a b = (s.0, b)

  pub sized_once : (rs : List (List ℕ)) → Sized size rs → Sized size (once rs)
  unfolding once Sized
  sized_once [] s = s
  sized_once (r ∷ rs) s = (s.0, sized_after (id_of r) rs s.1)

-- ---- they are not more

length_after : (i : Id) (rs : List (List ℕ)) → length (once_after i rs) ≤ length rs
unfolding once_after
length_after i [] = zero-le
length_after i (r ∷ rs) = go (same i (id_of r)) (length_after i rs) (length_after (id_of r) rs)
  where
    go : (t : Bool) → length (once_after i rs) ≤ length rs → length (once_after (id_of r) rs) ≤ length rs → length (cond t (once_after i rs) (r ∷ once_after (id_of r) rs)) ≤ suc (length rs)
    go true a b = omega arith
    go false a b = suc-le-suc b

pub length_once : (rs : List (List ℕ)) → length (once rs) ≤ length rs
unfolding once
length_once [] = zero-le
length_once (r ∷ rs) = suc-le-suc (length_after (id_of r) rs)
