use Rattle.reply_order.proofs.plan.made_plan.Goals as goal

pub returns : goal.returns
returns c = record {
  replies = c.in_ok-replies.replies.items;
  in_order = c.in_ok-replies.ensures;
  grouped = c.in_ok-grouped.grouped.items;
  by_era = c.in_ok-grouped.ensures;
  eras = cc (c.in_ok-eras.ensures, c.as_slice-2.ensures.value);
  binds = rw c.new.ensures (rw c.as_slice.ensures.value at c.in_ok-binds.ensures);
}
