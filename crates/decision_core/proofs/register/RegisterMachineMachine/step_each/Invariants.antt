use Rattle.std.proofs.Common.{take}
use Rattle.std.specs.List.{AllByRecursion}
use Rattle.decision_core.specs.Register.{HasRegisterStep}
use Rattle.decision_core.proofs.register.RegisterMachineMachine.step_each.Given as goal

abbrev pub invariant-loop-call : goal.invariant-loop-call
invariant-loop-call l = AllByRecursion (λ n. HasRegisterStep l.states.items n l.state) (take l.call-index l.calls)
