-- Every place names a call, so its number is one of theirs.
use Rattle.std.proofs.Common.{sym, ap, ◌∙◌}
use Rattle.std.specs.Option.{option_copied}
use Rattle.order_check.proofs.ShapeLaws.{numbers_within}
use Rattle.order_check.proofs.shape.check_places.Goals as goal

pub mark_calls-requires : goal.mark_calls-requires
mark_calls-requires c = rw c.count.ensures.value (numbers_within c.args.history.now.calls c.args.order.now (sym c.unknown.ensures ∙ ap option_copied c.in_default.is))
