use Rattle.std.proofs.Common.{◌≡◌, ◌++◌, ◌∷◌, [], ap, subst, rules}
use Rattle.std.specs.Prelude.{Contains}
use Rattle.decision_walk.proofs.Crashes.{crash_steps}
use Rattle.decision_walk.specs.View.{WalkView}
use Rattle.decision_walk.proofs.Origins.{adds_one}
use Rattle.decision_walk.proofs.machine.HistoryMachine.step_crash.Goals as goal

pub returns : goal.returns
returns c =
    let new = c.push.new.self.items in
    let items : new ≡ c.args.states.now.items ++ c.in_ok-child.child ∷ [] = search rules in
    let same = ap (λ (s : WalkView). s.origin) c.in_ok-child.ensures in
    let found = adds_one c.args.state.now.origin c.args.states.now.items new c.in_ok-child.child items same in
    (found.0, crash_steps c.args.self.now.history.now.known c.args.self.now.marks.items new c.args.state.now c.args.n c.requires (subst (λ s. Contains new s) c.in_ok-child.ensures found.1))
