use lib.Dec.{ltb}
use Rattle.rules.specs.Counts.{columns}
use Rattle.expiry.proofs.keep.drop_resolved.Given as goal

abbrev pub ghost-keep_passing : goal.ghost-keep_passing
ghost-keep_passing a = λ v. ltb v columns
