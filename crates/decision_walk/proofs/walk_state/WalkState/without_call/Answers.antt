use Rattle.std.proofs.Common.{◌∙◌, ◌==◌, ℕ, List, ap, filter, not}
use Rattle.decision_walk.specs.View.{WalkView}
use Rattle.decision_walk.specs.contracts.walk_state.WalkState.{the_view}
use Rattle.decision_walk.proofs.walk_state.WalkState.without_call.Goals as goal

pub returns : goal.returns
returns c =
    ap (λ (calls : List ℕ). record (the_view c.self.inside) { placed = calls; answered_to = c.args.answered_to }) c.without.ensures
    ∙ ap (λ (v : WalkView). record v { placed = filter (λ m. not (m == c.args.n)) v.placed; answered_to = c.args.answered_to }) c.self.view_is
