use Rattle.std.proofs.Common.{◌≡◌}
use Rattle.reply_order.specs.Making.{replies_up_to}
use Rattle.reply_order.proofs.replies.all_replies.Given as goal

abbrev pub invariant-loop-index : goal.invariant-loop-index
invariant-loop-index l = l.replies.items ≡ replies_up_to l.history.calls l.index
