use Rattle.serving_commands.proofs.Plans.{told_bad}
use Rattle.serving_commands.proofs.running.plan_of.Goals as goal

pub returns-in-Err : goal.returns-in-Err
returns-in-Err c = λ k bad. told_bad c.read_plan.result c.in-Err.fault c.from.result k c.in-Err.is c.from.ensures (c.read_plan.ensures.named k bad)
