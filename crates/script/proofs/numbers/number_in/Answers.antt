use mathlib.Core.Path.{◌≡◌, sym, ap, ◌∙◌}
use Prim.Native.Nat.{ℕ, ◌+◌, ◌*◌, ◌≤◌}
use native.Mathlib.Omega.{arith}
use borrow.Author.Tests.{eqb-true, eqb-false}
use Rattle.script.specs.Digits.{number_of}
use Rattle.script.proofs.Reading.{left, empty, started, more, no_digit, not_in_base, over, ended}
use Rattle.script.proofs.numbers.number_in.Goals as goal
use Rattle.script.proofs.numbers.number_in.Goals.{Else-base-d}

-- one digit more
next : (c : Else-base-d) →
    number_of c.args.base c.args.most c.args.word.now
    ≡ left c.args.base c.args.most c.args.word.now (c.loop-x.n * c.args.base + c.in_ok-d.field-0) (c.loop-x.x-index + 1)
next c =
    c.loop-x.invariant.whole ∙ more c.args.base c.args.most c.args.word.now c.loop-x.n c.loop-x.x-index c.in_ok-d.field-0 (omega arith) (sym c.digit.ensures ∙ c.in_ok-d.was) (omega arith)

pub returns-then-is_empty : goal.returns-then-is_empty
returns-then-is_empty c = sym (empty c.args.base c.args.most c.args.word.now (eqb-true _ _ (sym c.is_empty.ensures ∙ c.if-is_empty.true)))

pub loop-x-init : goal.loop-x-init
loop-x-init c = record {
  within = omega arith;
  whole = started c.args.base c.args.most c.args.word.now (eqb-false _ _ (sym c.is_empty.ensures ∙ c.if-is_empty.false));
}

pub returns-in_err-d : goal.returns-in_err-d
returns-in_err-d c =
    c.from_residual.ensures ∙ sym (c.loop-x.invariant.whole ∙ no_digit c.args.base c.args.most c.args.word.now c.loop-x.n c.loop-x.x-index (omega arith) (omega arith) (sym c.digit.ensures ∙ c.in_err-d.was))

pub returns-then-base-d : goal.returns-then-base-d
returns-then-base-d c =
    sym (c.loop-x.invariant.whole ∙ not_in_base c.args.base c.args.most c.args.word.now c.loop-x.n c.loop-x.x-index c.in_ok-d.field-0 (omega arith) (sym c.digit.ensures ∙ c.in_ok-d.was) (omega arith))

pub returns-in_err-checked_mul : goal.returns-in_err-checked_mul
returns-in_err-checked_mul c =
    let large : 18446744073709551616 ≤ c.loop-x.n * c.args.base = omega (arith, c.in_err-checked_mul.ensures) in
    c.from_residual-in_err-checked_mul.ensures ∙ sym (next (goal.at.returns-in_err-checked_mul c).Else-base-d ∙ over c.args.base c.args.most c.args.word.now _ _ (omega arith) (omega arith))

pub returns-in_err-n : goal.returns-in_err-n
returns-in_err-n c =
    let e = c.in_ok-checked_mul.ensures in
    let large : 18446744073709551616 ≤ c.loop-x.n * c.args.base + c.in_ok-d.field-0 = omega (arith, c.in_err-n.ensures) in
    c.from_residual-in_err-n.ensures ∙ sym (next (goal.at.returns-in_err-n c).Else-base-d ∙ over c.args.base c.args.most c.args.word.now _ _ (omega arith) (omega arith))

pub returns-then-most-n : goal.returns-then-most-n
returns-then-most-n c =
    let e = c.in_ok-n.ensures in
    let f = c.in_ok-checked_mul.ensures in
    sym (next (goal.at.returns-then-most-n c).Else-base-d ∙ over c.args.base c.args.most c.args.word.now _ _ (omega arith) (omega arith))

pub loop-x-preserved : goal.loop-x-preserved
loop-x-preserved c = record {
  within = omega arith;
  whole = next (goal.at.loop-x-preserved c).Else-base-d ∙ ap (λ (n : ℕ). left c.args.base c.args.most c.args.word.now n (c.loop-x.x-index + 1)) (let e = c.in_ok-n.ensures in let f = c.in_ok-checked_mul.ensures in omega arith);
}

pub returns : goal.returns
returns c =
    sym (c.loop-x.invariant.whole ∙ ended c.args.base c.args.most c.args.word.now c.loop-x.n c.loop-x.x-index (omega arith) (omega arith))
