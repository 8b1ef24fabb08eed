-- What a search tells of the place where a new record goes in: those before it are not above it, and those from there on are. Assumes nothing.
use Rattle.std.specs.Prelude.{Ok, Err}
use mathlib.Core.Path.{◌≡◌, refl, ap, subst, ◌∙◌}
use mathlib.Core.Bool.{true, false}
use mathlib.Core.List.{List, ◌∷◌, map}
use Prim.Native.Nat.{ℕ, suc, ◌+◌, ◌≤◌}
use native.Mathlib.Omega.{arith}
use lib.ListN.{length, take, drop}
use Rattle.rules.specs.Ids.{Id, below}
use Rattle.rules.proofs.All.{All, none, more}
use Rattle.rules.proofs.Ids.{Up, end, step, below_asym, all_above}
use Rattle.std.specs.Ordering.{is_lt}
use Rattle.ids.specs.Search.{cmp, decide, find_from}
use Rattle.std.specs.declared.cmp.Ordering.{Ordering}
use Rattle.std.specs.declared.cmp.Ordering.TheVariants.{Less, Equal, Greater}
use Rattle.ids.specs.Search.{Found}
use Rattle.ids.proofs.Ids.{below_cmp_is, cmp_equal, cmp_refl, cmp_above}
use Rattle.ids.proofs.Search.{at_told, gap_told}
use Rattle.merges.specs.New.{rank_of}

module _ {A : Type 0} (id : A → Id) (x : A) where
  -- i of the records do not stand above x
  pub record Ranked (cs : List A) (i : ℕ) : Type 0 where
    pub low : All (λ c. below (id x) (id c) ≡ false) (take i cs)
    pub high : All (λ c. below (id x) (id c) ≡ true) (drop i cs)

  not_below_self : below (id x) (id x) ≡ false
  not_below_self = below_cmp_is (id x) (id x) ∙ ap is_lt (cmp_refl (id x))

  ranked_from : (k : ℕ) {cs : List A} → Up id cs → (i : ℕ) × ((rank_of (find_from (id x) k (map id cs)) ≡ k + i) × Ranked cs i)
  unfolding find_from
  ranked_from k end = (0, (omega arith, record { low = none; high = none }))
  ranked_from k (step {r = c} {rs = cs} a u) = go (cmp (id c) (id x)) refl (ranked_from (suc k) u)
    where
      go : (o : Ordering) → cmp (id c) (id x) ≡ o → (i : ℕ) × ((rank_of (find_from (id x) (suc k) (map id cs)) ≡ suc k + i) × Ranked cs i)
          → (i : ℕ) × ((rank_of (decide o (find_from (id x) (suc k) (map id cs)) (Ok k) (Err k)) ≡ k + i) × Ranked (c ∷ cs) i)
      go Less e t =
          let no : below (id x) (id c) ≡ false = below_asym (id c) (id x) (below_cmp_is (id c) (id x) ∙ ap is_lt e) in
          (suc t.0, (omega (arith, t.1.0), record { low = more no t.1.1.low; high = t.1.1.high }))
      go Equal e t =
          let q : id c ≡ id x = cmp_equal (id c) (id x) e in
          let no : below (id x) (id c) ≡ false = ap (below (id x)) q ∙ not_below_self in
          (1, (refl, record { low = more no none; high = subst (λ (i : Id). All (λ p. below i (id p) ≡ true) cs) q a }))
      go Greater e t =
          let up : below (id x) (id c) ≡ true = cmp_above (id c) (id x) e in
          (0, (omega arith, record { low = none; high = more up (all_above id x c cs up a) }))

  pub ranked : {cs : List A} (i : ℕ) → Up id cs → i ≡ rank_of (find_from (id x) 0 (map id cs)) → Ranked cs i
  ranked {cs} i u e =
      let t = ranked_from 0 u in
      let p : t.0 ≡ i = omega (arith, t.1.0) in
      subst (λ (n : ℕ). Ranked cs n) p t.1.1

-- where it goes in is within them, or at their end
pub rank_within : (i : Id) (js : List Id) (r : ℕ) → r ≡ rank_of (find_from i 0 js) → r ≤ length js
rank_within i js r e = go (find_from i 0 js) refl e
  where
    go : (f : Found) → find_from i 0 js ≡ f → r ≡ rank_of f → r ≤ length js
    go (Ok n) q z = omega (arith, (at_told i js n q).within)
    go (Err n) q z = omega (arith, (gap_told i js n q).within)
