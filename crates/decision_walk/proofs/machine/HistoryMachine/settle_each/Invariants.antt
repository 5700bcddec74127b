use Rattle.std.proofs.Common.{◌≡◌, take}
use Rattle.decision_walk.specs.Settling.{SettlesAt}
use Rattle.decision_walk.proofs.machine.HistoryMachine.settle_each.Given as goal

abbrev pub invariant-loop-call : goal.invariant-loop-call
invariant-loop-call l = SettlesAt l.self.history.now.known l.self.marks.items (take l.call-index l.calls) l.fn.state l.state × (l.state.origin ≡ l.fn.state.origin)
