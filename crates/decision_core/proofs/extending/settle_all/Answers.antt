use Rattle.std.proofs.Common.{rules, ◌≡◌, [], ◌∷◌, subst, arith}
use Rattle.std.proofs.lemmas.List.{nil_from_length}
use Rattle.decision_core.specs.States.{ComeOf, HasFor, Settles}
use Rattle.decision_core.specs.Layers.{Grows}
use Rattle.decision_core.proofs.Sets.{done_step, done_all, HasSettled, settled_grows, settled_held}
use Rattle.decision_core.proofs.extending.settle_all.Goals as goal

pub loop-state-preserved : goal.loop-state-preserved
loop-state-preserved g c =
    let left : c.loop-state.state-iterator.rest.items ≡ c.in-Some.state ∷ c.next.new.self.rest.items = search rules in
    let p : Grows c.loop-state.settled.items.items c.put.new.states.items.items × HasFor (g.M.Machine.StandsFor c.args.machine.now) c.put.new.states.items.items c.in_ok-after.after = search rules in
    let settles : Settles (g.M.Machine.StandsFor c.args.machine.now) (g.M.Machine.placed c.args.machine.now) (g.M.Machine.Next c.args.machine.now) (c.args.n ∷ []) c.in-Some.state c.in_ok-after.after = search rules in
    let o : ComeOf (g.M.Machine.origin) g.of c.put.new.states.items.items = search rules in
    let rest : ComeOf (g.M.Machine.origin) g.of (c.in-Some.state ∷ c.next.new.self.rest.items) = subst (ComeOf (g.M.Machine.origin) g.of) left c.loop-state.invariant.1.0 in (
      done_step
          (HasSettled (g.M.Machine.StandsFor c.args.machine.now) (g.M.Machine.placed c.args.machine.now) (g.M.Machine.Next c.args.machine.now) (c.args.n ∷ []) c.loop-state.settled.items.items)
          (HasSettled (g.M.Machine.StandsFor c.args.machine.now) (g.M.Machine.placed c.args.machine.now) (g.M.Machine.Next c.args.machine.now) (c.args.n ∷ []) c.put.new.states.items.items)
          c.args.states.items c.in-Some.state c.next.new.self.rest.items c.loop-state.state-iterator.rest.items left
          (λ s has. settled_grows (g.M.Machine.StandsFor c.args.machine.now) (g.M.Machine.placed c.args.machine.now) (g.M.Machine.Next c.args.machine.now) (c.args.n ∷ []) c.loop-state.settled.items.items c.put.new.states.items.items s p.0 has)
          (settled_held (g.M.Machine.StandsFor c.args.machine.now) (g.M.Machine.placed c.args.machine.now) (g.M.Machine.Next c.args.machine.now) (c.args.n ∷ []) c.put.new.states.items.items c.in-Some.state c.in_ok-after.after settles p.1) c.loop-state.invariant.0,
      (rest.1, o),
    )

pub returns-clause-settles : goal.returns-clause-settles
returns-clause-settles g c =
    let left : c.loop-state.state-iterator.rest.items ≡ [] = nil_from_length _ (omega (arith, c.in-None.ensures.steps.0, c.loop-state.state-iterator.rest.ok)) in
    done_all (HasSettled (g.M.Machine.StandsFor c.args.machine.now) (g.M.Machine.placed c.args.machine.now) (g.M.Machine.Next c.args.machine.now) (c.args.n ∷ []) c.loop-state.settled.items.items)
    c.args.states.items c.loop-state.state-iterator.rest.items left c.loop-state.invariant.0
