use Rattle.std.proofs.Common.{◌≡◌, sym, subst, rules}
use Rattle.decision_walk.specs.View.{KeptView}
use Rattle.decision_walk.specs.Standing.{IsAt}
use Rattle.decision_walk.specs.Placings.{kept_of}
use Rattle.decision_walk.specs.Resolving.{IsResolvedTo}
use Rattle.decision_walk.proofs.CountingLaws.{resolves}
use Rattle.decision_walk.proofs.machine.HistoryMachine.resolved.Goals as goal

pub returns-clause-resolved : goal.returns-clause-resolved
returns-clause-resolved c = λ plan gone point at counted.
    let known = c.args.self.now.history.now.known in
    let marks = c.args.self.now.marks.items in
    let state = c.args.state.now in
    let before : KeptView = record { tree = c.state.inside.stands.tree; writes = c.as_slice.result.now; origin = c.state.inside.stands.origin } in
    let view : before ≡ kept_of state = search rules in
    let here = subst (λ (k : KeptView). IsResolvedTo known c.args.one.call c.args.count k c.in_ok-kept.kept) view c.in_ok-kept.ensures.resolved in
    subst (IsAt known marks plan gone point) (sym c.in_ok-with_trees.ensures)
    (resolves known marks state c.in_ok-kept.kept c.in_ok-base.base c.args.one.call c.args.count here c.in_ok-base.ensures.resolved plan gone point at counted)
