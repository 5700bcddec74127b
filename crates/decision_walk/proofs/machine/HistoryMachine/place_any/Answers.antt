use Rattle.std.proofs.Common.{subst, rules}
use Rattle.decision_walk.specs.Guessing.{HasNamesMore}
use Rattle.decision_walk.proofs.machine.HistoryMachine.place_any.Goals as goal

pub place_asking-requires : goal.place_asking-requires
place_asking-requires c =
    subst (λ k. HasNamesMore c.args.self.now.history.now.known c.args.self.now.marks.items c.args.state.now k c.args.call.now c.args.outcome.now) c.number.ensures
    (c.in_ok-asks_for_handle.ensures (search rules))
