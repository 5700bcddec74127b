use Rattle.std.proofs.Common.{◌≡◌, false, rules}
use Rattle.decision_steps.specs.Known.{is_failure, knows_handles}
use Rattle.decision_walk.proofs.Guesses.{success_asks}
use Rattle.decision_walk.proofs.machine.HistoryMachine.asks_for_handle.Goals as goal

pub returns-else-is_failure : goal.returns-else-is_failure
returns-else-is_failure c = λ _.
    let knows : knows_handles c.args.state.now.binds c.args.call.now ≡ false = search rules in
    let is : is_failure c.args.outcome.now ≡ false = search rules in
    success_asks c.args.self.now.history.now.known c.args.self.now.marks.items c.args.state.now c.args.n c.args.call.now c.args.outcome.now knows is
