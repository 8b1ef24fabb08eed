use lib.Dec.{leb}
use Rattle.expiry.proofs.keep.prune_confirmed.Given as goal

abbrev pub ghost-keep_passing : goal.ghost-keep_passing
ghost-keep_passing a = leb a.test.0.now
