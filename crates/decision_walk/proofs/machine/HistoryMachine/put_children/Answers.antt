use Rattle.std.proofs.Common.{◌≡◌, false, Some, subst, rules}
use Rattle.std.specs.Prelude.{Contains}
use Rattle.certificate.specs.Plan.{call_of}
use Rattle.decision_walk.specs.Placings.{child_of, HasChildren, MayNotLose}
use Rattle.decision_walk.proofs.StepLaws.{if_ok, never_lost, as_first_lost}
use Rattle.decision_walk.specs.View.{Adds}
use Rattle.decision_walk.proofs.Origins.{adds_on}
use Rattle.decision_walk.proofs.machine.HistoryMachine.put_children.Goals as goal

pub returns-then-not-may_lose : goal.returns-then-not-may_lose
returns-then-not-may_lose c =
    let known = c.args.self.now.history.now.known in
    let marks = c.args.self.now.marks.items in
    let state = c.args.state.now in
    let writes = c.args.writes.now in
    let n = call_of c.args.place in
    let new = c.put_child.new.states.items in
    let not : c.may_lose.result ≡ false = search rules in
    let stays : MayNotLose known marks state n = subst (λ k. MayNotLose known marks state k) c.number.ensures (c.may_lose.ensures not) in
    let there = subst (λ b. Contains new (child_of state c.args.next.now writes b n)) c.in_ok-copy_base.ensures.same c.in_ok-put_child.ensures.1 in
    (c.in_ok-put_child.ensures.0, never_lost known marks new state n c.args.next.now writes stays there)

pub returns : goal.returns
returns c =
    let known = c.args.self.now.history.now.known in
    let marks = c.args.self.now.marks.items in
    let old = c.args.states.now.items in
    let middle = c.put_child.new.states.items in
    let new = c.put_child-2.new.states.items in
    let state = c.args.state.now in
    let next = c.args.next.now in
    let writes = c.args.writes.now in
    let n = call_of c.args.place in
    let there = subst (λ b. Contains middle (child_of state next writes b n)) c.in_ok-copy_base.ensures.same c.in_ok-put_child.ensures.1 in
    if_ok c.put_child-2.result (λ _. Adds state.origin middle new × Contains new (child_of state next writes (Some c.in_ok-kept.field-0) n))
    (λ _. Adds state.origin old new × HasChildren known marks new state n next writes)
    (λ _ found. (
      adds_on state.origin old middle new c.in_ok-put_child.ensures.0 found.0,
      as_first_lost known marks middle new state n next writes found.0.0 there (subst (λ t. Contains new (child_of state next writes (Some t) n)) c.in_ok-kept.ensures found.1),
    ))
    c.put_child-2.ensures
