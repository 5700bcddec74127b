use Rattle.replay_law.proofs.Crashes.{not_both}
use Rattle.replay_law.proofs.first.no_run_has_an_illegal_step.Goals as goal

pub returns : goal.returns
returns g c = λ setting. not_both (g.R.Replayable.next setting) (g.R.Replayable.start setting)
