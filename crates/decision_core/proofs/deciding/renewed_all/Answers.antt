use Rattle.std.proofs.Common.{rules, ◌≡◌, [], ◌∷◌, ◌++◌, suc, ◌+◌, Some, length, ap, sym, subst, arith}
use Rattle.std.proofs.lemmas.List.{nil_from_length}
use Rattle.decision_core.specs.States.{ComeOf, HasFor, Replaces}
use Rattle.decision_core.proofs.Sets.{done_step, done_all, for_grows, all_push, grows_by_one, one_is_there, one_longer}
use Rattle.decision_core.proofs.deciding.renewed_all.Goals as goal

pub loop-state-preserved : goal.loop-state-preserved
loop-state-preserved g c =
    let inv = c.loop-state.invariant in
    let left : c.loop-state.state-iterator.rest.items ≡ c.in-Some.state ∷ c.next.new.self.rest.items = search rules in
    let put : c.put_renewed.new.after.items ≡ c.loop-state.after.items ++ c.in_ok-renewed.renewed ∷ [] = search rules in
    let replaces : Replaces (g.M.Machine.StandsFor c.args.machine.now) c.in-Some.state c.in_ok-renewed.renewed = search rules in
    let from : g.M.Machine.origin c.in_ok-renewed.renewed ≡ g.M.Machine.itself c.args.first.now = search rules in
    let rest : ComeOf (g.M.Machine.origin) (Some (g.M.Machine.origin c.args.first.now)) (c.in-Some.state ∷ c.next.new.self.rest.items) = subst (ComeOf (g.M.Machine.origin) (Some (g.M.Machine.origin c.args.first.now))) left inv.1.1 in
    let longer = one_longer c.loop-state.after.items c.put_renewed.new.after.items c.in_ok-renewed.renewed put in
    let shorter : length c.loop-state.state-iterator.rest.items ≡ suc (length c.next.new.self.rest.items) = ap length left in (
      done_step (HasFor (g.M.Machine.StandsFor c.args.machine.now) c.loop-state.after.items) (HasFor (g.M.Machine.StandsFor c.args.machine.now) c.put_renewed.new.after.items) c.args.states.items c.in-Some.state c.next.new.self.rest.items
          c.loop-state.state-iterator.rest.items left
          (λ s has. for_grows (g.M.Machine.StandsFor c.args.machine.now) c.loop-state.after.items c.put_renewed.new.after.items s (grows_by_one c.loop-state.after.items c.put_renewed.new.after.items c.in_ok-renewed.renewed put) has)
          (c.in_ok-renewed.renewed, one_is_there c.loop-state.after.items c.put_renewed.new.after.items c.in_ok-renewed.renewed put, replaces) inv.0,
      (
        (let had = inv.1.0 in omega (arith, had, longer, shorter)),
        rest.1,
        subst (ComeOf (g.M.Machine.origin) (Some (g.M.Machine.itself c.args.first.now))) (sym put)
            (all_push (λ s. Some (g.M.Machine.origin s) ≡ Some (g.M.Machine.itself c.args.first.now)) c.loop-state.after.items c.in_ok-renewed.renewed inv.1.2 (ap (λ o. Some o) from)),
      ),
    )

pub returns-clause-has : goal.returns-clause-has
returns-clause-has g c =
    let left : c.loop-state.state-iterator.rest.items ≡ [] = nil_from_length _ (omega (arith, c.in-None.ensures.steps.0, c.loop-state.state-iterator.rest.ok)) in
    done_all (HasFor (g.M.Machine.StandsFor c.args.machine.now) c.loop-state.after.items) c.args.states.items c.loop-state.state-iterator.rest.items left c.loop-state.invariant.0
