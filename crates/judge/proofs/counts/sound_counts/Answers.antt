use mathlib.Core.Path.{sym, ◌∙◌}
use mathlib.Core.Bool.{true, ◌&&◌}
use lib.ListN.{take}
use borrow.Author.Tests.{le-leb, lt-leb}
use Rattle.std.proofs.Common.{rules, tests}
use Rattle.std.proofs.lemmas.Iterator.{YieldsList-from_slice}
use Rattle.std.proofs.lemmas.Iterator.Consumers.{fold_from_yields_List}
use Rattle.rules.specs.Counts.{places_of_counts, sound_count}
use Rattle.rules.specs.Memory.{sound_counts}
use Rattle.lists.proofs.Tested.{every_fold}
use Rattle.judge.proofs.counts.sound_counts.Goals as goal

pub returns-then-counts-lt-COUNTS : goal.returns-then-counts-lt-COUNTS
unfolding sound_counts
returns-then-counts-lt-COUNTS c = rw (lt-leb _ _ c.if-counts-lt-COUNTS.true)

pub returns : goal.returns
unfolding sound_counts
returns c =
    fold_from_yields_List _ (λ t x. t && sound_count x) true _ c.fold.ensures.ran (YieldsList-from_slice _ c.iter.ensures.rest) (λ t x r q k. search (rules, tests))
    ∙ every_fold sound_count (take places_of_counts c.args.counts.now) ∙ sym (rw (le-leb _ _ c.if-counts-lt-COUNTS.false))
