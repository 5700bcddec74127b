use Rattle.replay_law.proofs.Crashes.{one_first}
use Rattle.replay_law.proofs.first.the_first_illegal_step_is_one.Goals as goal

pub returns : goal.returns
returns g c = λ setting. one_first (g.R.Replayable.next setting) (g.R.Replayable.start setting)
