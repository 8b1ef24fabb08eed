-- The four slices that a call is lent to write in, as contracts name them: what they hold where the call begins, and where it ends. Assumes nothing.
use Rattle.std.specs.Prelude.{ℕ, List, Float}
use Rattle.std.specs.Borrow.{MutBor}
use denote.Triple.Both.{Both}
use Rattle.rules.specs.Memory.{Lent, lent}

-- the four slices as a `requires` names them: what they hold when they are lent
abbrev pub given : MutBor (List Float) → MutBor (List Float) → MutBor (List ℕ) → MutBor (List ℕ) → Lent
given confirmed resolved pending recent = lent confirmed.now resolved.now pending.now recent.now

-- the four slices as an `ensures` names them: what they held when they were lent
abbrev pub before : {P Q R S : Type 0} → Both (MutBor (List Float)) P → Both (MutBor (List Float)) Q → Both (MutBor (List ℕ)) R → Both (MutBor (List ℕ)) S → Lent
before confirmed resolved pending recent = given confirmed.entry resolved.entry pending.entry recent.entry

-- what the four slices of an `ensures` hold when they come back
abbrev pub after : {P Q R S : Type 0} → Both P (MutBor (List Float)) → Both Q (MutBor (List Float)) → Both R (MutBor (List ℕ)) → Both S (MutBor (List ℕ)) → Lent
after confirmed resolved pending recent = given confirmed.exit resolved.exit pending.exit recent.exit
