use Rattle.std.proofs.Common.{rules}
use Rattle.std.proofs.lemmas.List.Sorted.{answers_always}
use Rattle.std.proofs.lemmas.List.Sorted.{IsNonDecreasingBy-from_sort_by_key}
use Rattle.reply_order.specs.declared.replies.Reply.{Reply}
use Rattle.reply_order.proofs.Grouping.{kept_in_eras}
use Rattle.reply_order.proofs.eras.by_era.Goals as goal

pub returns : goal.returns
returns c = record {
  ordered = IsNonDecreasingBy-from_sort_by_key (λ (r : Reply). r.era) _ c.in_ok-sort_by_key.ensures.sorted (λ a r q k. search rules);
  kept = kept_in_eras _ _ (c.sort_by_key.ensures.stable (λ (r : Reply). r.era) (answers_always _ _ _ (λ f a r g h. search rules)));
}
