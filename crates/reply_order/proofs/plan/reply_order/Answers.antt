use Rattle.reply_order.proofs.OnePlan.{only_plan}
use Rattle.reply_order.proofs.plan.reply_order.Goals as goal

pub returns : goal.returns
returns c = record { only = only_plan c.args.history.now c.made_plan.result c.made_plan.ensures }
