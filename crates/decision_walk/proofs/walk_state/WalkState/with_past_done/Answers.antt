use Rattle.std.proofs.Common.{◌∙◌, ℕ, List, ap}
use Rattle.decision_walk.specs.Settling.{past_done}
use Rattle.decision_walk.specs.contracts.walk_state.WalkState.{the_view}
use Rattle.decision_walk.proofs.walk_state.WalkState.with_past_done.Goals as goal

pub returns : goal.returns
returns c =
    ap (λ (calls : List ℕ). record (the_view c.self.inside) { past = c.self.inside.era; placed = calls }) c.without_earlier.ensures
    ∙ ap (past_done c.args.machine.now.history.now.known) c.self.view_is
