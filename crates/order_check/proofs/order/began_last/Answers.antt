-- The call that began last among the places so far, or the one behind them.
use Rattle.std.proofs.Common.{subst, arith}
use Rattle.order_check.specs.Order.{BeganLastIfAny}
use Rattle.order_check.proofs.OrderLaws.{later_last, still_last}
use Rattle.order_check.proofs.order.began_last.Goals as goal

pub returns-in-Some : goal.returns-in-Some
returns-in-Some c = λ places place named last.
    still_last c.args.history.now.calls places place c.in-Some.other c.args.number (subst (BeganLastIfAny c.args.history.now.calls places) c.in-Some.is last) named
    (omega arith)

pub returns-in_default : goal.returns-in_default
returns-in_default c = λ places place named last.
    later_last c.args.history.now.calls places place c.in-Some.other c.args.number (subst (BeganLastIfAny c.args.history.now.calls places) c.in-Some.is last) named
    (omega arith)
