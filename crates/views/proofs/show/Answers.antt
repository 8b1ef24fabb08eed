-- `views::show` meets its contract. Assumes nothing.
use Rattle.std.proofs.Common.{rules, ◌≡◌, length}
use Rattle.std.specs.Prelude.{None}
use Rattle.kinds.specs.declared.Horizon.{Horizon}
use Rattle.report.specs.Shown.{of_show, shown}
use Rattle.views.proofs.Known.{known_page}
use Rattle.views.proofs.show.Goals as goal

pub returns-clause-known : goal.returns-clause-known
returns-clause-known g c =
    let long : length c.read_full.new.buf ≡ 65537 = search rules in
    known_page _ (shown of_show None Horizon.Base) 65537 c.read_full.new.buf c.in_ok-n.n _ _ c.in_ok-n.ensures.filled long c.show_text.ensures.result_after
