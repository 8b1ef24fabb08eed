-- `judge::counts::sound_count` meets its contract. Assumes nothing.
use Rattle.judge.proofs.Soundness.{sound_tests}
use Rattle.judge.proofs.counts.sound_count.Goals as goal

pub returns : goal.returns
returns c = sound_tests c.args.x
