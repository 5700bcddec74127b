use Rattle.std.proofs.Common.{◌≡◌, None, IfOk, subst, rules}
use Rattle.decision_walk.specs.Opening.{open_at, IsInserted}
use Rattle.decision_walk.specs.Placings.{HasChildren, HasTaken}
use Rattle.decision_walk.specs.Resolving.{CanOpen, IsNowhereOpen}
use Rattle.decision_walk.proofs.CountingLaws.{opens_take}
use Rattle.decision_walk.proofs.StepLaws.{if_ok}
use Rattle.decision_walk.specs.View.{Adds}
use Rattle.decision_walk.proofs.machine.HistoryMachine.put_opened.Goals as goal

pub returns : goal.returns
returns c =
    let known = c.args.self.now.history.now.known in
    let marks = c.args.self.now.marks.items in
    let state = c.args.state.now in
    let n = c.args.n in
    let one = c.in-Some.one in
    let next = c.state.inside.stands in
    let writes = c.in_ok-writes.writes.items in
    let old = c.args.states.now.items in
    let new = c.put_children.new.states.items in
    let tree : next.tree ≡ state.tree = search rules in
    let binds : next.binds ≡ state.binds = search rules in
    let can : CanOpen known state n one = c.in-Some.ensures in
    let none : open_at state.writes one.object ≡ None = search rules in
    let nowhere : IsNowhereOpen state n = c.is_open_in.ensures c.if-is_open_in.false in
    let before : c.as_slice-2.result.now ≡ state.writes = search rules in
    let inserted : IsInserted one state.writes writes = subst (λ ws. IsInserted one ws writes) before c.in_ok-writes.ensures in
    let after : c.as_slice-3.result.now ≡ writes = search rules in
    let put : IfOk c.put_children.result (λ _. Adds state.origin old new × HasChildren known marks new state n next writes) =
    subst (λ ws. IfOk c.put_children.result (λ _. Adds state.origin old new × HasChildren known marks new state n next ws)) after c.put_children.ensures in
    if_ok c.put_children.result (λ _. Adds state.origin old new × HasChildren known marks new state n next writes) (λ _. Adds state.origin old new × HasTaken known marks new state n c.args.call.now)
    (λ _ found. (found.0, opens_take known marks new state n c.args.call.now one next writes c.requires.call can tree binds none nowhere inserted found.1)) put
