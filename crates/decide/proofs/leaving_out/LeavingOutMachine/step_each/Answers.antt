use Rattle.decide.proofs.Alike.{all_alike}
use Rattle.decide.proofs.leaving_out.LeavingOutMachine.step_each.Goals as goal

pub returns-clause-origin : goal.returns-clause-origin
returns-clause-origin c = all_alike c.loop-call.states.items
