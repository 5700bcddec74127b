use Rattle.std.proofs.Common.{◌≡◌, Err, length, subst, rules}
use Rattle.tree_starts.specs.Start.{object_made}
use Rattle.certificate.specs.Plan.{call_of}
use Rattle.decision_steps.specs.Placing.{Covers}
use Rattle.decision_walk.proofs.Attempts.{placed_covers, refused_covers}
use Rattle.decision_walk.proofs.machine.HistoryMachine.try_call.Goals as goal

pub returns-in-Ok-clause-covers : goal.returns-in-Ok-clause-covers
returns-in-Ok-clause-covers c =
    let known = c.args.self.now.history.now.known in
    let stands = c.state.inside.stands in
    let tree : c.args.state.now.tree ≡ stands.tree = search rules in
    let binds : c.args.state.now.binds ≡ stands.binds = search rules in
    let made : c.in-Some.object ≡ object_made (length known.head.start) (call_of c.args.place) = search rules in
    placed_covers known c.args.state.now stands tree binds (call_of c.args.place) c.in-Some.object made c.profile-profile.result c.profile-profile.ensures c.args.call.now c.args.outcome.now c.in-Ok.next
    c.in-Ok.ensures.covers

pub returns-in-Err-NotLegal-clause-covers : goal.returns-in-Err-NotLegal-clause-covers
returns-in-Err-NotLegal-clause-covers c =
    let known = c.args.self.now.history.now.known in
    let stands = c.state.inside.stands in
    let tree : c.args.state.now.tree ≡ stands.tree = search rules in
    let binds : c.args.state.now.binds ≡ stands.binds = search rules in
    let made : c.in-Some.object ≡ object_made (length known.head.start) (call_of c.args.place) = search rules in
    refused_covers known c.args.state.now stands tree binds (call_of c.args.place) c.in-Some.object made c.profile-profile.result c.profile-profile.ensures c.args.call.now c.args.outcome.now
    (λ plan after agrees leads. subst (λ f. Covers (Err f) stands c.args.call.now plan after) c.in-Err-NotLegal.field-0-is (c.in-Err-NotLegal.ensures.covers plan after agrees leads))
