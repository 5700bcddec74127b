use Rattle.std.proofs.Common.{leb, rules}
use Rattle.std.proofs.lemmas.List.Sorted.{IsPartitionPoint-from_clause, IsPartitionedBy-leb}
use Rattle.reply_order.specs.declared.replies.Reply.{Reply}
use Rattle.reply_order.proofs.Grouping.{here_is, later_is}
use Rattle.reply_order.proofs.eras.split_behind.Goals as goal

pub returns-clause-here : goal.returns-clause-here
returns-clause-here c =
    let parted = IsPartitionedBy-leb (λ (r : Reply). r.era) _ c.args.era c.requires in
    let point = IsPartitionPoint-from_clause (λ (r : Reply). leb r.era c.args.era) _ _ c.partition_point.ensures.partitioned parted (λ a r q k. search rules) in
    rw c.split_at.ensures.front (here_is c.args.era _ _ point.1)

pub returns-clause-later : goal.returns-clause-later
returns-clause-later c =
    let parted = IsPartitionedBy-leb (λ (r : Reply). r.era) _ c.args.era c.requires in
    let point = IsPartitionPoint-from_clause (λ (r : Reply). leb r.era c.args.era) _ _ c.partition_point.ensures.partitioned parted (λ a r q k. search rules) in
    λ e lt. rw c.split_at.ensures.back (later_is c.args.era e _ _ c.partition_point.ensures.bound lt point.0)
