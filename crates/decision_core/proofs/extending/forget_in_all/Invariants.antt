use Rattle.decision_core.specs.States.{ComeOf}
use Rattle.decision_core.proofs.Sets.{DoneOrLeft, HasForgotten}
use Rattle.decision_core.proofs.extending.forget_in_all.Given as goal

abbrev pub invariant-loop-state : goal.invariant-loop-state
invariant-loop-state g l = DoneOrLeft (HasForgotten (g.M.Machine.StandsFor l.machine) l.n l.left.items.items) l.fn.states.items l.state-iterator.rest.items
    × (ComeOf (g.M.Machine.origin) g.of l.state-iterator.rest.items × ComeOf (g.M.Machine.origin) g.of l.left.items.items)
