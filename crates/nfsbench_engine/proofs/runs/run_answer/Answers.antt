use Rattle.nfsbench_engine.proofs.Yes.{ran_yes}
use Rattle.nfsbench_engine.proofs.runs.run_answer.Goals as goal

pub returns-in-Ok-clause-said : goal.returns-in-Ok-clause-said
returns-in-Ok-clause-said c = ran_yes c.args.ran c.in-Ok.recorded c.in-Ok.is c.judge_run.result c.judge_run.ensures.yes c.requires
