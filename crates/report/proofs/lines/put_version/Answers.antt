-- Two words, and a word and a number.
use Rattle.std.proofs.Common.{◌∙◌, ap}
use Rattle.print.specs.Page.{write, writes}
use Rattle.print.specs.Numerals.{decimal}
use Rattle.report.specs.Words.{space, unknown_version}
use Rattle.report.specs.Shown.{line, name, carried, refusal}
use Rattle.report.proofs.lines.put_version.Goals as goal

pub returns-clause-written : goal.returns-clause-written
unfolding writes line refusal name carried
returns-clause-written c =
    c.put_number.ensures.written ∙ ap (writes (line space (decimal c.args.v))) (c.put-2.ensures.written ∙ ap (write unknown_version) c.put.ensures.written)
