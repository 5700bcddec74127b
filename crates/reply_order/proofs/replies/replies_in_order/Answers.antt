use Rattle.reply_order.proofs.Numbers.{numbers_in_order}
use Rattle.reply_order.proofs.replies.replies_in_order.Goals as goal

pub returns : goal.returns
returns c =
    rw (c.in_ok-numbers.ensures, c.as_slice.ensures.value) (numbers_in_order c.args.history.now.calls c.in_ok-replies.replies.items c.in_ok-replies.ensures)
