use Rattle.std.proofs.Common.{◌≡◌, drop, []}
use Rattle.reply_order.specs.Making.{names_of, binds_behind}
use Rattle.reply_order.proofs.binds.given_binds.Given as goal

abbrev pub invariant-loop-reply : goal.invariant-loop-reply
invariant-loop-reply l = record {
  names : l.names ≡ names_of l.history.head.root l.binds.items;
  whole : binds_behind l.history l.binds.items (drop l.reply-index l.replies) ≡ binds_behind l.history [] l.replies;
}
