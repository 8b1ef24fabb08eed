-- The order of ids as one of three, and where an id stands among rising ids, or belongs. Assumes nothing.
use Rattle.std.specs.Prelude.{ℕ, suc, cond, List, [], ◌∷◌, ltb, Result, Ok, Err}
use Rattle.rules.specs.Ids.{Id}
use Rattle.std.specs.declared.cmp.Ordering.{Ordering}
use Rattle.std.specs.declared.cmp.Ordering.TheVariants.{Less, Equal, Greater}

-- the order of two ids, byte by byte
unfoldable pub cmp : Id → Id → Ordering
cmp [] [] = Equal
cmp [] (y ∷ ys) = Less
cmp (x ∷ xs) [] = Greater
cmp (x ∷ xs) (y ∷ ys) = cond (ltb x y) Less (cond (ltb y x) Greater (cmp xs ys))

-- what a search finds: `Ok` with the number where the id stands, `Err` with the number where it belongs
abbrev pub Found : Type 0
Found = Result ℕ ℕ

-- what a look at one id decides: below the one that is looked for, go on; the id itself; above it, it is missing
abbrev pub decide : Ordering → Found → Found → Found → Found
decide Less on at gap = on
decide Equal on at gap = at
decide Greater on at gap = gap

-- where `id` stands among ids, the first of which has the number `k`, or where it belongs
unfoldable pub find_from : Id → ℕ → List Id → Found
find_from id k [] = Err k
find_from id k (j ∷ js) = decide (cmp j id) (find_from id (suc k) js) (Ok k) (Err k)

-- where an id stands among ids, or where it belongs
abbrev pub find_in : Id → List Id → Found
find_in id js = find_from id 0 js
