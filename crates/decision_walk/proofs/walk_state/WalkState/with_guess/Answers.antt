use Rattle.std.proofs.Common.{◌≡◌, sym, subst, rules}
use Rattle.decision_steps.specs.Known.{AgreesWith}
use Rattle.decision_walk.proofs.walk_state.WalkState.with_guess.Goals as goal

pub returns-clause-covers : goal.returns-clause-covers
returns-clause-covers c = λ plan agrees names.
    let binds : c.self.inside.stands.binds ≡ c.args.self.now.binds = search rules in
    c.in_ok-guess.ensures.covers plan (subst (λ b. AgreesWith b plan) (sym binds) agrees) names
