-- `settle::once::keep_other` meets its contract. Assumes nothing.
use mathlib.Core.Path.{◌≡◌, sym, ap, ◌∙◌}
use mathlib.Core.Bool.{not}
use Prim.Native.Nat.{ℕ, ◌+◌, ◌*◌, ◌-◌, ◌≤◌}
use native.Mathlib.Nat.{mul-le-mul_right}
use native.Mathlib.Omega.{arith}
use lib.ListN.{drop}
use lib.Seq.{take-take}
use Rattle.lists.proofs.Part.{next_part}
use Rattle.rules.specs.Ids.{Id, same}
use Rattle.ids.proofs.Ids.{id32}
use Rattle.table.proofs.Keeping.{moved_asked}
use Rattle.settle.proofs.once.keep_other.Goals as goal
use Rattle.settle.proofs.once.keep_other.Goals.{Start}

-- record k - 1 ends where record k begins, and that is not behind record i
order : (s : Start) → ((s.args.k - 1) * s.args.size + s.args.size ≡ s.args.k * s.args.size) × (s.args.k * s.args.size ≤ s.args.i * s.args.size)
order s =
    let e : s.args.k - 1 + 1 ≡ s.args.k = omega arith in
    (sym (next_part s.args.size (s.args.k - 1)) ∙ ap (λ (n : ℕ). n * s.args.size) e, mul-le-mul_right s.args.size s.requires.1.1.0)

pub overflow_mul-k : goal.overflow_mul-k
overflow_mul-k c = omega (arith, order (goal.at.overflow_mul-k c).Start)

pub returns : goal.returns
returns c =
    moved_asked
    (ap not c.same_ids-repeated.ensures
    ∙ ap (λ (j : Id). not (same (id32 ((c.args.k - 1) * c.args.size) c.args.table.now) j)) (sym (take-take 32 c.args.size (drop (c.args.i * c.args.size) c.args.table.now) c.requires.0)))
    c.keep_record.ensures
