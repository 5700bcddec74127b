use Rattle.std.proofs.Common.{◌≡◌, IfOk, subst, rules}
use Rattle.certificate.specs.Plan.{call_of}
use Rattle.decision_walk.specs.View.{WalkView, Adds}
use Rattle.decision_walk.specs.Placings.{narrowed, HasChildren, HasPlaced}
use Rattle.decision_walk.proofs.CountingLaws.{none_fits, looks_cover}
use Rattle.decision_walk.proofs.StepLaws.{if_ok}
use Rattle.decision_walk.proofs.Origins.{adds_nothing}
use Rattle.decision_walk.proofs.machine.HistoryMachine.place_looking.Goals as goal

pub returns-then-counts : goal.returns-then-counts
returns-then-counts c = (
  adds_nothing c.args.state.now.origin c.args.states.now.items,
  none_fits c.args.self.now.history.now.known c.args.self.now.marks.items c.args.states.now.items c.args.state.now (call_of c.args.place) c.args.call.now c.args.one c.requires.found c.args.outcome.now
      c.in_ok-counts.counts c.in_ok-counts.ensures (search rules),
)

pub returns : goal.returns
returns c =
    let known = c.args.self.now.history.now.known in
    let marks = c.args.self.now.marks.items in
    let state = c.args.state.now in
    let counts = c.in_ok-counts.counts in
    let n = call_of c.args.place in
    let call = c.args.call.now in
    let outcome = c.args.outcome.now in
    let old = c.args.states.now.items in
    let new = c.put_children.new.states.items in
    let here = c.in_ok-after.after in
    let is : here ≡ narrowed state c.args.one.call counts.least counts.most = c.in_ok-after.ensures in
    let next = c.after.inside.stands in
    let writes : c.as_slice.result.now ≡ here.writes = search rules in
    let tree : next.tree ≡ here.tree = search rules in
    let binds : next.binds ≡ here.binds = search rules in
    let put : IfOk c.put_children.result (λ _. Adds here.origin old new × HasChildren known marks new here n next here.writes) =
    subst (λ ws. IfOk c.put_children.result (λ _. Adds here.origin old new × HasChildren known marks new here n next ws)) writes c.put_children.ensures in
    let put_here : IfOk c.put_children.result (λ _. Adds state.origin old new × HasChildren known marks new (narrowed state c.args.one.call counts.least counts.most) n next (narrowed state c.args.one.call counts.least counts.most).writes) =
    subst (λ (s : WalkView). IfOk c.put_children.result (λ _. Adds s.origin old new × HasChildren known marks new s n next s.writes)) is put in
    let same_tree : next.tree ≡ state.tree = subst (λ (s : WalkView). next.tree ≡ s.tree) is tree in
    let same_binds : next.binds ≡ state.binds = subst (λ (s : WalkView). next.binds ≡ s.binds) is binds in
    if_ok c.put_children.result (λ _. Adds state.origin old new × HasChildren known marks new (narrowed state c.args.one.call counts.least counts.most) n next (narrowed state c.args.one.call counts.least counts.most).writes)
    (λ _. Adds state.origin old new × HasPlaced known marks new state n call outcome)
    (λ _ found. (found.0, looks_cover known marks new state n call c.args.one c.requires.found outcome counts c.in_ok-counts.ensures c.requires.looks next same_tree same_binds found.1)) put_here
