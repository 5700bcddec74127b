use Rattle.std.proofs.Common.{rules, ◌≡◌, [], ◌∷◌, ◌+◌, length, get_or, ap, refl, sym, subst, arith}
use Rattle.decision_core.specs.declared.deciding.Event.TheVariants.{Called}
use Rattle.decision_core.specs.Events.{HasStateBehind}
use Rattle.decision_core.specs.States.{ComeOf, first_origin}
use Rattle.decision_core.proofs.OneEvent.{keeps_renewed, stands_itself, take_one, keeps_first, none_after, still_left}
use Rattle.decision_core.proofs.deciding.decide.Goals as goal

pub loop-index-init : goal.loop-index-init
loop-index-init g c =
    let one : c.push.new.self.items ≡ c.in_ok-opening.field-0 ∷ [] = search rules in (
      (let many : length c.push.new.self.items ≡ 1 = ap length one in omega (arith, many)),
      (λ times tells. keeps_first (g.M.Machine.StandsFor c.args.machine.now) (g.M.Machine.placed c.args.machine.now) (g.M.Machine.Next c.args.machine.now) (g.met.M.Machine.told c.args.machine.now) (g.M.Machine.first c.args.machine.now) times c.args.events.now tells
          c.in_ok-opening.field-0 c.push.new.self.items c.new-waiting.result.items one c.new-waiting.ensures.items c.in_ok-opening.ensures (g.met.M.Machine.fresh c.args.machine.now)),
      subst (λ l. ComeOf (g.M.Machine.origin) (first_origin (g.M.Machine.origin) l) l) (sym one) (refl, tt),
    )

pub loop-index-preserved : goal.loop-index-preserved
loop-index-preserved g c =
    let behind = subst (HasStateBehind (get_or c.args.events.now c.loop-index.index (Called 0))) c.as_slice.ensures.value (c.call_unexplained.ensures.none c.in_default.is) in
    let left = still_left (g.M.Machine.StandsFor c.args.machine.now) (g.M.Machine.placed c.args.machine.now) (g.M.Machine.Next c.args.machine.now) _ c.loop-index.waiting.items c.in_ok-after.left.items c.loop-index.states.items c.in_ok-after.after.items c.in_ok-after.ensures.step c.loop-index.invariant.0 behind in
    let many : length c.in_ok-states.states.items ≡ length c.in_ok-after.after.items = search rules in (
      omega (arith, left, many),
      (λ times tells. keeps_renewed times c.args.events.now tells (g.M.Machine.StandsFor c.args.machine.now) (g.M.Machine.placed c.args.machine.now) (g.M.Machine.Next c.args.machine.now) (g.met.M.Machine.told c.args.machine.now) (g.M.Machine.first c.args.machine.now) (c.loop-index.index + 1) c.in_ok-after.left.items c.in_ok-after.after.items c.in_ok-states.states.items c.in_ok-states.ensures.has
          (take_one times c.args.events.now tells (g.M.Machine.StandsFor c.args.machine.now) (g.M.Machine.placed c.args.machine.now) (g.M.Machine.Next c.args.machine.now) (g.met.M.Machine.told c.args.machine.now) (g.M.Machine.first c.args.machine.now) c.loop-index.index _
          c.loop-index.waiting.items c.in_ok-after.left.items c.loop-index.states.items c.in_ok-after.after.items
          (stands_itself c.args.events.now c.loop-index.index _ c.loop-index-test.true) c.in_ok-after.ensures.step (c.loop-index.invariant.1 times tells))),
      c.in_ok-states.ensures.origin,
    )

pub returns-in-Some-clause-none : goal.returns-in-Some-clause-none
returns-in-Some-clause-none g c = λ plan times tells.
    let kept = take_one times c.args.events.now tells (g.M.Machine.StandsFor c.args.machine.now) (g.M.Machine.placed c.args.machine.now) (g.M.Machine.Next c.args.machine.now) (g.met.M.Machine.told c.args.machine.now) (g.M.Machine.first c.args.machine.now) c.loop-index.index _
    c.loop-index.waiting.items c.in_ok-after.left.items c.loop-index.states.items c.in_ok-after.after.items
    (stands_itself c.args.events.now c.loop-index.index _ c.loop-index-test.true) c.in_ok-after.ensures.step (c.loop-index.invariant.1 times tells) in
    let empty : c.in_ok-after.after.items ≡ [] = search rules in
    none_after (g.M.Machine.StandsFor c.args.machine.now) (g.M.Machine.placed c.args.machine.now) (g.M.Machine.Next c.args.machine.now) (g.met.M.Machine.told c.args.machine.now) (g.M.Machine.first c.args.machine.now) times c.args.events.now tells (c.loop-index.index + 1) c.in_ok-after.left.items
    c.in_ok-after.after.items empty kept plan
