use mathlib.Core.Path.{refl, ◌∙◌}
use mathlib.Core.List.{append-nil}
use native.Mathlib.Omega.{arith}
use lib.ListN.{drop_of_length-le}
use borrow.Author.Rules.{rules}
use Rattle.print.specs.Numerals.{decimal}
use Rattle.print.proofs.Digits.{first_digit, last_digit, one_less}
use Rattle.print.proofs.digits_into.Goals as goal

pub loop-rest-init : goal.loop-rest-init
unfolding decimal
loop-rest-init c = record {
  length_is = search rules;
  at_most = omega arith;
  at_least = omega arith;
  fits = omega arith;
  value = rw (drop_of_length-le c.args.text.now {i = 20} (search rules), append-nil) refl;
}

pub loop-rest-preserved : goal.loop-rest-preserved
loop-rest-preserved c = let i = c.loop-rest.invariant in let less = one_less c.loop-rest.at c.loop-rest.rest c.loop-rest-test.true i.at_least i.fits in record {
  length_is = search rules;
  at_most = omega arith;
  at_least = less.0;
  fits = less.1;
  value = last_digit c.loop-rest.at c.loop-rest.rest c.loop-rest.text c.loop-rest-test.true i.at_least (omega arith) ∙ i.value;
}

pub returns-clause-value : goal.returns-clause-value
returns-clause-value c = let i = c.loop-rest.invariant in first_digit c.loop-rest.at c.loop-rest.rest c.loop-rest.text (omega arith) i.at_least (omega arith) ∙ i.value
