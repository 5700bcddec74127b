use Rattle.std.proofs.Common.{◌≡◌, ℕ, ◌<◌}
use Rattle.std.specs.List.{filter}
use Rattle.std.specs.List.Sorted.{IsNonDecreasingBy}
use Rattle.reply_order.specs.declared.replies.Reply.{Reply}
use Rattle.reply_order.specs.Making.{is_of_era, plans_up_to}
use Rattle.reply_order.proofs.eras.all_plans.Given as goal

abbrev pub invariant-loop-index : goal.invariant-loop-index
invariant-loop-index l = record {
  made : l.plans.items ≡ plans_up_to l.replies l.eras l.index;
  ordered : IsNonDecreasingBy (λ (r : Reply). r.era) l.rest;
  left : (e : ℕ) → l.index < e → filter (is_of_era e) l.rest ≡ filter (is_of_era e) l.replies;
}
