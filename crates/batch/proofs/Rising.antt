-- Records whose ids rise: an id has one of them or none, and those before a record are below it. Assumes nothing.
use mathlib.Core.Path.{◌≡◌, refl, sym, ap, ◌∙◌}
use mathlib.Core.Bool.{Bool, true, false, ◌||◌}
use mathlib.Core.List.{List}
use Prim.Native.Nat.{ℕ, zero, suc, ◌+◌, ◌<◌}
use native.Mathlib.Nat.{not-suc-le-zero, le_of_suc-le-suc}
use native.Mathlib.Omega.{arith}
use lib.ListN.{length, get_or, take}
use Rattle.rules.specs.Lists.{bit, count, any}
use Rattle.rules.specs.Ids.{Id, same, below}
use Rattle.rules.proofs.All.{All, none, more, all_at, all_take}
use Rattle.rules.proofs.Ids.{Up, end, step, same_eq}
use Rattle.rules.proofs.Room.{above_absent}

module _ {A : Type 0} (id : A → Id) where
  -- the first n rise
  pub up_take : (n : ℕ) {rs : List A} → Up id rs → Up id (take n rs)
  up_take zero u = end
  up_take (suc n) end = end
  up_take (suc n) (step a u) = step (all_take n a) (up_take n u)

  -- an id has one record or none
  pub count_one : (i : Id) {rs : List A} → Up id rs → count (λ q. same (id q) i) rs ≡ bit (any (λ q. same (id q) i) rs)
  unfolding count any
  count_one i end = refl
  count_one i (step {r} {rs} a u) = go (same (id r) i) refl (count_one i u)
    where
      go : (t : Bool) → same (id r) i ≡ t → count (λ q. same (id q) i) rs ≡ bit (any (λ q. same (id q) i) rs) → bit t + count (λ q. same (id q) i) rs ≡ bit (t || any (λ q. same (id q) i) rs)
      go true e h =
          let no : bit (any (λ q. same (id q) i) rs) ≡ 0 = ap bit (ap (λ (j : Id). any (λ q. same (id q) j) rs) (sym (same_eq (id r) i e)) ∙ above_absent id (id r) a) in
          omega arith
      go false e h = omega arith

  -- those before record number n are below it
  pub under_at : (n : ℕ) (d : A) {rs : List A} → Up id rs → n < length rs → All (λ q. below (id q) (id (get_or rs n d)) ≡ true) (take n rs)
  under_at n d end h = absurd (not-suc-le-zero h)
  under_at zero d (step a u) h = none
  under_at (suc n) d (step a u) h = more (all_at n d a (le_of_suc-le-suc h)) (under_at n d u (le_of_suc-le-suc h))
