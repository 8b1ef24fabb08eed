-- The number that a word says is of 32 bits.
use Rattle.std.proofs.Common.{◌∙◌, sym, arith}
use Rattle.script.proofs.Reading.{at_most}
use Rattle.inspect.proofs.chain_of.Goals as goal

pub overflow_cast-result : goal.overflow_cast-result
overflow_cast-result c = omega (arith, at_most 10 4294967295 c.args.word.now c.in_ok-n.n (sym c.number_in.ensures ∙ c.in_ok-n.was))
