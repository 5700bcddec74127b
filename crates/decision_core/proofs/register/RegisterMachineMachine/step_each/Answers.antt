use Rattle.std.proofs.Common.{rules, ◌≡◌, ℕ, false, List, [], ◌∷◌, Some, take, get_or, refl, subst, arith}
use Rattle.std.specs.List.{AllByRecursion}
use Rattle.decision_core.specs.Layers.{Grows}
use Rattle.decision_core.specs.Register.{RegisterState, register_next, register_placed, HasRegisterStep, StandsForItself}
use Rattle.decision_core.specs.States.{ComeOf, HasStep}
use Rattle.decision_core.proofs.Sets.{all_weaker, one_more, all_gone_over}
use Rattle.decision_core.proofs.register.RegisterMachineMachine.step_each.Goals as goal

grown : (old new : List RegisterState) (state : RegisterState) (n : ℕ) → Grows old new → HasRegisterStep old n state → HasRegisterStep new n state
grown old new state n grows has after unplaced next = grows after (has after unplaced next)

step_of : (states : List RegisterState) (state : RegisterState) (n : ℕ) → HasRegisterStep states n state
    → HasStep {Plan = Unit {0}} (λ _ _. StandsForItself) register_placed (λ _. register_next) states n state
step_of states state n has plan gone point after stands kept unplaced next =
    (after, has after (subst (λ p. register_placed p n ≡ false) stands unplaced) (subst (λ p. register_next p n after) stands next), refl)

pub loop-call-preserved : goal.loop-call-preserved
loop-call-preserved c =
    let put : Grows c.loop-call.states.items c.put_step.new.states.items × HasRegisterStep c.put_step.new.states.items (get_or c.args.calls.now c.loop-call.call-index 0) c.args.state.now = search rules in
    one_more (λ n. HasRegisterStep c.loop-call.states.items n c.args.state.now) (λ n. HasRegisterStep c.put_step.new.states.items n c.args.state.now) c.args.calls.now c.loop-call.call-index 0 c.loop-call-test.true
    (λ n has. grown c.loop-call.states.items c.put_step.new.states.items c.args.state.now n put.0 has) c.loop-call.invariant put.1

pub returns-clause-steps : goal.returns-clause-steps
returns-clause-steps c =
    all_weaker (λ n. HasRegisterStep c.loop-call.states.items n c.args.state.now) _ (λ n has. step_of c.loop-call.states.items c.args.state.now n has) c.args.calls.now
    (all_gone_over (λ n. HasRegisterStep c.loop-call.states.items n c.args.state.now) c.args.calls.now c.loop-call.call-index (omega (arith, c.loop-call-test.false)) c.loop-call.invariant)

all_come : (states : List RegisterState) → ComeOf {Origin = Unit {0}} (λ _. tt) (Some tt) states
all_come [] = tt
all_come (s ∷ states) = (refl, all_come states)

pub returns-clause-origin : goal.returns-clause-origin
returns-clause-origin c = all_come c.loop-call.states.items
