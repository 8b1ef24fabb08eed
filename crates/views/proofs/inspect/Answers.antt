-- `views::inspect` meets its contract. Assumes nothing.
use Rattle.std.proofs.Common.{rules, ◌≡◌, length}
use Rattle.report.specs.Shown.{of_inspect, named_by, shown}
use Rattle.views.proofs.Known.{known_page}
use Rattle.views.proofs.inspect.Goals as goal

pub returns-clause-known : goal.returns-clause-known
returns-clause-known g c =
    let long : length c.read_full.new.buf ≡ 3197970 = search rules in
    known_page _ (λ file. shown of_inspect c.args.chain (named_by file) file) 3197970 c.read_full.new.buf c.in_ok-n.n _ _ c.in_ok-n.ensures.filled long c.inspect_text.ensures.result_after
