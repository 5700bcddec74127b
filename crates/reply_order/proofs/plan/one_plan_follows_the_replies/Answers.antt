use Rattle.reply_order.proofs.OnePlan.{one_plan}
use Rattle.reply_order.proofs.plan.one_plan_follows_the_replies.Goals as goal

pub returns : goal.returns
returns c = one_plan
