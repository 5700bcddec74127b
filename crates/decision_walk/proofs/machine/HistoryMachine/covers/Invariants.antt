use Rattle.std.proofs.Common.{drop}
use Rattle.decision_walk.specs.Resolving.{Covers}
use Rattle.decision_walk.proofs.machine.HistoryMachine.covers.Given as goal

-- if the rest are what is left, and extra ones, then all are
abbrev pub invariant-loop-one : goal.invariant-loop-one
invariant-loop-one l = Covers l.self.history.now.known l.stands.binds l.state l.left (drop l.one-index l.others) → Covers l.self.history.now.known l.stands.binds l.state l.writes l.others
