use Rattle.decision_walk.proofs.machine.HistoryMachineMachine.is_same.Goals as goal

pub returns : goal.returns
returns c = λ is. c.is_covered.ensures is
