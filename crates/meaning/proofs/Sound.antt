-- Every run keeps its memory sound, whether its blocks rise or not: each count stays finite and not below 0, on a board whose factor is above 0 and at
-- most 1. Assumes nothing.
use mathlib.Core.Path.{ap, ◌∙◌}
use Rattle.rules.specs.Board.{Board, Lawful}
use Rattle.rules.specs.Estimator.{tx_entered, tx_left}
use Rattle.rules.specs.Memory.{Lent, sound}
use Rattle.rules.proofs.Sound.{lay_sound}
use Rattle.floats.specs.Factor.{Factor}
use Rattle.floats.proofs.Steps.{all_sound}
use Rattle.floats.proofs.Steady.{Steady, steady_fresh, steady_block}
use Rattle.meaning.specs.Runs.{arrival, removal, block, Log, begin, ◌▸◌, Held, calls}
use Rattle.meaning.specs.Answered.{run, Follows, RunPromise}
use Rattle.meaning.proofs.Leading.{Comes, comes}

module _ (k : Board) (d : Factor k.decay) where
  steady : (l : Log) → Steady (run k l)
  unfolding run tx_entered tx_left
  steady begin = steady_fresh
  steady (l ▸ arrival i rate e) = record { confirmed = (steady l).confirmed; resolved = (steady l).resolved }
  steady (l ▸ removal i) = record { confirmed = (steady l).confirmed; resolved = (steady l).resolved }
  steady (l ▸ block ids B) = steady_block k d ids B (run k l) (steady l)

  pub follows : Lawful k → (m : Lent) (x : Held) → Comes k m x → Follows k m x
  follows law m x c =
      let s : Steady (run k x.log) = steady x.log in
      record {
        state_is = ap (λ (y : Held). y.state) c.is;
        memory_is = ap (λ (y : Held). y.memory) c.is;
        sound_is = ap (λ (y : Held). sound k y.state y.memory) c.is
            ∙ lay_sound k law (run k x.log) m c.live.well (record { confirmed = all_sound s.confirmed; resolved = all_sound s.resolved }) c.live.room;
      }

  pub run_promise : Lawful k → RunPromise k
  unfolding RunPromise
  run_promise law m e cs t = follows law m (calls k m cs) (comes k law m e cs t)
