use Rattle.std.proofs.Common.{rules, ◌≡◌, [], ◌∷◌, subst, arith}
use Rattle.std.proofs.lemmas.List.{nil_from_length}
use Rattle.decision_core.specs.Layers.{Grows, IsSortedInto}
use Rattle.decision_core.specs.States.{ComeOf}
use Rattle.decision_core.proofs.Sets.{done_step, done_all, sorted_grows}
use Rattle.decision_core.proofs.extending.sort_out.Goals as goal

pub loop-state-preserved : goal.loop-state-preserved
loop-state-preserved g c =
    let left : c.loop-state.state-iterator.rest.items ≡ c.in-Some.state ∷ c.next.new.self.rest.items = search rules in
    let p : (Grows c.loop-state.with.items.items c.sort_into.new.with.items.items × Grows c.loop-state.without.items.items c.sort_into.new.without.items.items)
    × IsSortedInto (g.M.Machine.StandsFor c.args.machine.now) (g.M.Machine.placed c.args.machine.now) (g.M.Machine.Next c.args.machine.now) c.args.n c.sort_into.new.with.items.items c.sort_into.new.without.items.items c.in-Some.state = search rules in
    let o : ComeOf (g.M.Machine.origin) g.of c.sort_into.new.with.items.items × ComeOf (g.M.Machine.origin) g.of c.sort_into.new.without.items.items = search rules in
    let rest : ComeOf (g.M.Machine.origin) g.of (c.in-Some.state ∷ c.next.new.self.rest.items) = subst (ComeOf (g.M.Machine.origin) g.of) left c.loop-state.invariant.1.0 in (
      done_step
          (IsSortedInto (g.M.Machine.StandsFor c.args.machine.now) (g.M.Machine.placed c.args.machine.now) (g.M.Machine.Next c.args.machine.now) c.args.n c.loop-state.with.items.items c.loop-state.without.items.items)
          (IsSortedInto (g.M.Machine.StandsFor c.args.machine.now) (g.M.Machine.placed c.args.machine.now) (g.M.Machine.Next c.args.machine.now) c.args.n c.sort_into.new.with.items.items c.sort_into.new.without.items.items)
          c.args.states.items c.in-Some.state c.next.new.self.rest.items c.loop-state.state-iterator.rest.items left
          (λ s sorted. sorted_grows (g.M.Machine.StandsFor c.args.machine.now) (g.M.Machine.placed c.args.machine.now) (g.M.Machine.Next c.args.machine.now) c.args.n c.loop-state.with.items.items
          c.sort_into.new.with.items.items c.loop-state.without.items.items c.sort_into.new.without.items.items s p.0.0 p.0.1 sorted)
          p.1 c.loop-state.invariant.0,
      (rest.1, o.0, o.1),
    )

pub returns-clause-sorted : goal.returns-clause-sorted
returns-clause-sorted g c =
    let left : c.loop-state.state-iterator.rest.items ≡ [] = nil_from_length _ (omega (arith, c.in-None.ensures.steps.0, c.loop-state.state-iterator.rest.ok)) in
    done_all
    (IsSortedInto (g.M.Machine.StandsFor c.args.machine.now) (g.M.Machine.placed c.args.machine.now) (g.M.Machine.Next c.args.machine.now) c.args.n c.loop-state.with.items.items c.loop-state.without.items.items)
    c.args.states.items c.loop-state.state-iterator.rest.items left c.loop-state.invariant.0
