use Rattle.std.proofs.Common.{rules}
use Rattle.std.proofs.lemmas.Cmp.{nat_list_cmp_total}
use Rattle.std.proofs.lemmas.List.Sorted.{ranks_by, answers_always}
use Rattle.certificate.specs.declared.plan.Bind.{Bind}
use Rattle.reply_order.proofs.binds.sorted_binds.Goals as goal

pub returns : goal.returns
returns c = record {
  shuffled = search rules;
  ordered = c.in_ok-sort_by.ensures.sorted _ (ranks_by nat_list_cmp_total (λ (b : Bind). b.handle)) (answers_always _ _ _ (λ f a r g h. search rules));
}
