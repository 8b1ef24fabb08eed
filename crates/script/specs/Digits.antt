-- Numbers in digits, the highest first. Assumes nothing.
use Rattle.std.specs.Prelude.{ℕ, ◌+◌, ◌*◌, ◌-◌, Bool, ◌&&◌, cond, List, [], ◌∷◌, leb, ltb, Option, Some, None}
use Rattle.rules.specs.Lists.{every}

-- the value of `0` to `9` and `a` to `f`; 16 for any other byte
unfoldable pub digit : ℕ → ℕ
digit x = cond (ltb x 48) 16 (cond (leb x 57) (x - 48) (cond (ltb x 97) 16 (cond (leb x 102) (x - 87) 16)))

-- the same, where it is one
abbrev pub digit_of : ℕ → Option ℕ
digit_of x = cond (ltb (digit x) 16) (Some (digit x)) None

-- a digit of the base
abbrev pub in_base : ℕ → ℕ → Bool
in_base base x = ltb (digit x) base

-- what digits say after others that say n
unfoldable pub value_after : ℕ → ℕ → List ℕ → ℕ
value_after base n [] = n
value_after base n (x ∷ xs) = value_after base (n * base + digit x) xs

-- the number that digits say after others that say n, if it is at most `most`
unfoldable pub number_after : ℕ → ℕ → ℕ → List ℕ → Option ℕ
number_after base most n xs =
    cond (every (in_base base) xs && leb (value_after base n xs) most) (Some (value_after base n xs)) None

-- the number that a word says: one digit or more
unfoldable pub number_of : ℕ → ℕ → List ℕ → Option ℕ
number_of base most [] = None
number_of base most (x ∷ xs) = number_after base most 0 (x ∷ xs)
