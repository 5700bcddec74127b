use Rattle.std.proofs.Common.{◌∙◌}
use Rattle.decision_walk.proofs.machine.HistoryMachineMachine.is_placed.Goals as goal

pub returns : goal.returns
returns c = λ plan gone point at kept. c.is_told.ensures ∙ at.placed c.args.n kept
