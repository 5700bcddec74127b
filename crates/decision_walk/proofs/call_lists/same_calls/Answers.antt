use Rattle.std.proofs.Common.{rules}
use Rattle.decision_walk.proofs.SameCalls.{same_calls}
use Rattle.decision_walk.proofs.call_lists.same_calls.Goals as goal

pub returns : goal.returns
returns c = λ is. same_calls c.args.calls.now c.args.others.now (search rules) (search rules)
