-- Marks beside a table: a byte for each record, by its place. Assumes nothing.
use Rattle.std.specs.Prelude.{ℕ, Bool, List, map, set, Ok, Err}
use Rattle.rules.specs.Lists.{bit}
use Rattle.rules.specs.Ids.{Id}
use Rattle.ids.specs.Search.{Found}

-- 1 where the record's id is marked, else 0
unfoldable pub beside : {A : Type 0} → (A → Id) → (Id → Bool) → List A → List ℕ
beside id mark rs = map (λ r. bit (mark (id r))) rs

-- what one listed id marks: the place where it is found
abbrev pub noted : Found → List ℕ → List ℕ
noted (Ok n) ms = set ms n 1
noted (Err n) ms = ms
