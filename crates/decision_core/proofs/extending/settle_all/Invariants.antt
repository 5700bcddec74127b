use Rattle.decision_core.specs.States.{ComeOf}
use Rattle.std.proofs.Common.{[], ◌∷◌}
use Rattle.decision_core.proofs.Sets.{DoneOrLeft, HasSettled}
use Rattle.decision_core.proofs.extending.settle_all.Given as goal

abbrev pub invariant-loop-state : goal.invariant-loop-state
invariant-loop-state g l = DoneOrLeft (HasSettled (g.M.Machine.StandsFor l.machine) (g.M.Machine.placed l.machine) (g.M.Machine.Next l.machine) (l.n ∷ []) l.settled.items.items) l.fn.states.items
    l.state-iterator.rest.items
    × (ComeOf (g.M.Machine.origin) g.of l.state-iterator.rest.items × ComeOf (g.M.Machine.origin) g.of l.settled.items.items)
