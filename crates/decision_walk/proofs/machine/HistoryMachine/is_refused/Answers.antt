use Rattle.std.proofs.Common.{◌≡◌, Err, length, subst, rules}
use Rattle.tree_starts.specs.Start.{object_made}
use Rattle.decision_steps.specs.Placing.{Covers}
use Rattle.decision_walk.proofs.Guesses.{refused_asks}
use Rattle.decision_walk.proofs.machine.HistoryMachine.is_refused.Goals as goal

pub returns-in-Err-HandleNotGiven : goal.returns-in-Err-HandleNotGiven
returns-in-Err-HandleNotGiven c = λ _.
    let known = c.args.self.now.history.now.known in
    let stands = c.state.inside.stands in
    let tree : c.args.state.now.tree ≡ stands.tree = search rules in
    let binds : c.args.state.now.binds ≡ stands.binds = search rules in
    let made : c.in-Some.object ≡ object_made (length known.head.start) c.args.n = search rules in
    refused_asks known c.args.self.now.marks.items c.args.state.now stands tree binds c.args.n c.in-Some.object made c.profile-profile.result c.profile-profile.ensures c.args.call.now c.args.outcome.now
    c.requires (c.makes_open.ensures c.if-makes_open.false)
    (λ plan after agrees leads. subst (λ f. Covers (Err f) stands c.args.call.now plan after) c.in-Err-HandleNotGiven.field-0-is (c.in-Err-HandleNotGiven.ensures.covers plan after agrees leads))
