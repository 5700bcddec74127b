use Rattle.std.proofs.Common.{rules, ◌≡◌, [], ◌∷◌, subst, arith}
use Rattle.std.proofs.lemmas.List.{nil_from_length}
use Rattle.decision_core.specs.States.{ComeOf}
use Rattle.decision_core.specs.Layers.{Grows, IsPutInto}
use Rattle.decision_core.proofs.Sets.{done_step, done_all, put_grows}
use Rattle.decision_core.proofs.extending.put_all.Goals as goal

pub loop-state-preserved : goal.loop-state-preserved
loop-state-preserved g c =
    let inv = c.loop-state.invariant in
    let left : c.loop-state.state-iterator.rest.items ≡ c.in-Some.state ∷ c.next.new.self.rest.items = search rules in
    let p : (Grows c.loop-state.with.items.items c.put_settled.new.with.items.items × Grows c.loop-state.without.items.items c.put_settled.new.without.items.items)
    × IsPutInto (g.M.Machine.StandsFor c.args.machine.now) (g.M.Machine.placed c.args.machine.now) (g.M.Machine.Next c.args.machine.now) c.args.calls.now c.args.n c.put_settled.new.with.items.items c.put_settled.new.without.items.items c.in-Some.state = search rules in
    let o : ComeOf (g.M.Machine.origin) g.of c.put_settled.new.with.items.items × ComeOf (g.M.Machine.origin) g.of c.put_settled.new.without.items.items = search rules in
    let rest : ComeOf (g.M.Machine.origin) g.of (c.in-Some.state ∷ c.next.new.self.rest.items) = subst (ComeOf (g.M.Machine.origin) g.of) left inv.2.0 in (
      ((λ s there. p.0.0 s (inv.0.0 s there)), (λ s there. p.0.1 s (inv.0.1 s there))),
      done_step
          (IsPutInto (g.M.Machine.StandsFor c.args.machine.now) (g.M.Machine.placed c.args.machine.now) (g.M.Machine.Next c.args.machine.now) c.args.calls.now c.args.n c.loop-state.with.items.items c.loop-state.without.items.items)
          (IsPutInto (g.M.Machine.StandsFor c.args.machine.now) (g.M.Machine.placed c.args.machine.now) (g.M.Machine.Next c.args.machine.now) c.args.calls.now c.args.n c.put_settled.new.with.items.items c.put_settled.new.without.items.items)
          c.args.states.items c.in-Some.state c.next.new.self.rest.items c.loop-state.state-iterator.rest.items left
          (λ s has. put_grows (g.M.Machine.StandsFor c.args.machine.now) (g.M.Machine.placed c.args.machine.now) (g.M.Machine.Next c.args.machine.now) c.args.calls.now c.args.n
          c.loop-state.with.items.items c.put_settled.new.with.items.items c.loop-state.without.items.items c.put_settled.new.without.items.items s p.0.0 p.0.1 has) p.1 inv.1,
      (rest.1, o.0, o.1),
    )

pub returns-clause-put : goal.returns-clause-put
returns-clause-put g c =
    let inv = c.loop-state.invariant in
    let left : c.loop-state.state-iterator.rest.items ≡ [] = nil_from_length _ (omega (arith, c.in-None.ensures.steps.0, c.loop-state.state-iterator.rest.ok)) in (
      inv.0,
      done_all (IsPutInto (g.M.Machine.StandsFor c.args.machine.now) (g.M.Machine.placed c.args.machine.now) (g.M.Machine.Next c.args.machine.now) c.args.calls.now c.args.n c.loop-state.with.items.items c.loop-state.without.items.items)
          c.args.states.items c.loop-state.state-iterator.rest.items left inv.1,
    )
