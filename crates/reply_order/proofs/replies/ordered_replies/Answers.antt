use Rattle.std.proofs.Common.{rules}
use Rattle.std.proofs.lemmas.List.Sorted.{IsNonDecreasingBy-from_sort_by_key}
use Rattle.reply_order.specs.declared.replies.Reply.{Reply}
use Rattle.reply_order.proofs.replies.ordered_replies.Goals as goal

pub returns : goal.returns
returns c = record {
  shuffled = search rules;
  ordered = IsNonDecreasingBy-from_sort_by_key (λ (r : Reply). r.«end») _ c.in_ok-sort_by_key.ensures.sorted (λ a r q k. search rules);
}
