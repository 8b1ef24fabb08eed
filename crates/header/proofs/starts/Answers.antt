-- `header::starts` meets its contract: each return is one case of the flag. Assumes nothing.
use mathlib.Core.Path.{◌≡◌, sym, ap, ◌∙◌}
use Prim.Native.Nat.{ℕ, ◌+◌}
use native.Mathlib.Omega.{arith}
use lib.ListN.{drop, get_or}
use Rattle.std.specs.Prelude.{Some}
use Rattle.format.specs.Parts.{begun}
use Rattle.format.specs.File.{with_bucket_count}
use Rattle.reader.proofs.Taken.{byte_taken}
use Rattle.header.proofs.Parts.{no_flag, flag_none, flag_other, flag_short, flag_at}
use Rattle.header.proofs.starts.Goals as goal
use Rattle.header.proofs.starts.Goals.{After-part}

-- the flag is the byte at its place
flag : (p : After-part) → get_or p.part.result.now 0 0 ≡ get_or p.args.s.now p.args.at 0
flag p = byte_taken 1 p.args.s.now p.args.at p.part.result.now p.part.ensures (omega arith)

pub returns-then-s-at-lt1 : goal.returns-then-s-at-lt1
unfolding begun
returns-then-s-at-lt1 c = sym (ap begun (no_flag c.args.s.now c.args.at (omega arith) (omega arith)))

pub returns-in-0 : goal.returns-in-0
returns-in-0 c = c.ends.ensures ∙ ap begun (sym (flag_none c.args.s.now c.args.at (omega arith) (omega (arith, flag (goal.at.returns-in-0 c).After-part))))

pub returns-in_default : goal.returns-in_default
unfolding begun
returns-in_default c =
    let f : get_or c.args.s.now c.args.at 0 ≡ 0 → ⊥ = λ e. omega (arith, flag (goal.at.returns-in_default c).After-part) in
    let g : get_or c.args.s.now c.args.at 0 ≡ 1 → ⊥ = λ e. omega (arith, flag (goal.at.returns-in_default c).After-part) in
    sym (ap begun (flag_other c.args.s.now c.args.at (omega arith) f g))

pub returns-then-s-at-lt5 : goal.returns-then-s-at-lt5
unfolding begun
returns-then-s-at-lt5 c = sym (ap begun (flag_short c.args.s.now c.args.at (omega arith) (omega (arith, flag (goal.at.returns-then-s-at-lt5 c).After-part)) (omega arith)))

pub returns-else-s-at-lt5 : goal.returns-else-s-at-lt5
returns-else-s-at-lt5 c =
    c.ends-in-1.ensures
    ∙ ap (λ (n : ℕ). begun (with_bucket_count (Some (record { 0 = n })) (drop (c.args.at + 5) c.args.s.now))) c.number-h.ensures
    ∙ ap begun (sym (flag_at c.args.s.now c.args.at (omega arith) (omega (arith, flag (goal.at.returns-else-s-at-lt5 c).After-part))))
