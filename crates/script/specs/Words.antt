-- Words, separated by one space each. Assumes nothing.
use Rattle.std.specs.Prelude.{ℕ, suc, ◌+◌, cond, List, [], ◌∷◌, ltb, eqb, length, drop}
use Rattle.std.specs.declared.ops.Range.{Range}

-- where the first x stands; the list's length where there is none
unfoldable pub index_of : ℕ → List ℕ → ℕ
index_of x [] = 0
index_of x (y ∷ ys) = cond (eqb y x) 0 (suc (index_of x ys))

-- from `at` up to the next space, or to the end; past the end, nothing at the end
unfoldable pub word_from : List ℕ → ℕ → Range ℕ
word_from line at = cond (ltb (length line) at) (record { start = length line; end = length line }) (record { start = at; end = at + index_of 32 (drop at line) })
