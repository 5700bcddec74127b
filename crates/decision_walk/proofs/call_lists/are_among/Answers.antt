use Rattle.std.proofs.Common.{drop, rules, arith}
use Rattle.std.proofs.lemmas.List.{drop_all}
use Rattle.decision_walk.proofs.SameCalls.{next_less, at_first, at_last}
use Rattle.decision_walk.proofs.call_lists.are_among.Goals as goal

pub loop-call-init : goal.loop-call-init
loop-call-init c = λ n. at_first c.args.calls.now c.args.others.now n

pub loop-call-preserved : goal.loop-call-preserved
loop-call-preserved c =
    next_less c.args.calls.now c.args.others.now c.loop-call.call-index c.loop-call-test.true (search rules) c.loop-call.invariant

pub returns : goal.returns
returns c = λ is.
    at_last c.args.calls.now c.args.others.now (drop c.loop-call.call-index c.args.calls.now) (drop_all c.loop-call.call-index c.args.calls.now (omega (arith, c.loop-call-test.false))) c.loop-call.invariant
