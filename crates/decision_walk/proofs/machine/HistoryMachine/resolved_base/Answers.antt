use Rattle.std.proofs.Common.{◌≡◌, Some, subst, rules}
use Rattle.decision_walk.specs.View.{KeptView}
use Rattle.decision_walk.specs.Resolving.{IsResolvedTo}
use Rattle.decision_walk.proofs.CountingLaws.{base_resolves}
use Rattle.decision_walk.proofs.machine.HistoryMachine.resolved_base.Goals as goal

pub returns-in_ok-after-in-Some-clause-resolved : goal.returns-in_ok-after-in-Some-clause-resolved
returns-in_ok-after-in-Some-clause-resolved c =
    let known = c.args.self.now.history.now.known in
    let before : KeptView = record { tree = c.base.inside.stands.tree; writes = c.as_slice.result.now; origin = c.base.inside.stands.origin } in
    let view : before ≡ c.in-Some.base = search rules in
    let is : c.args.state.now.base ≡ Some c.in-Some.base = search rules in
    base_resolves known c.args.one.call c.args.count c.args.state.now.base c.in-Some.base c.in_ok-after-in-Some.after is
    (subst (λ (k : KeptView). IsResolvedTo known c.args.one.call c.args.count k c.in_ok-after-in-Some.after) view c.in_ok-after-in-Some.ensures.resolved)
