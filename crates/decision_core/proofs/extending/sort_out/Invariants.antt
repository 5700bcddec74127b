use Rattle.std.proofs.Common.{◌≡◌}
use Rattle.decision_core.specs.Layers.{IsSortedInto}
use Rattle.decision_core.specs.States.{ComeOf}
use Rattle.decision_core.proofs.Sets.{DoneOrLeft}
use Rattle.decision_core.proofs.extending.sort_out.Given as goal

abbrev pub invariant-loop-state : goal.invariant-loop-state
invariant-loop-state g l =
    DoneOrLeft (IsSortedInto (g.M.Machine.StandsFor l.machine) (g.M.Machine.placed l.machine) (g.M.Machine.Next l.machine) l.n l.with.items.items l.without.items.items) l.fn.states.items
    l.state-iterator.rest.items
    × (ComeOf (g.M.Machine.origin) g.of l.state-iterator.rest.items × ComeOf (g.M.Machine.origin) g.of l.with.items.items × ComeOf (g.M.Machine.origin) g.of l.without.items.items)

abbrev pub ghost-sort_into : goal.ghost-sort_into
ghost-sort_into g a = g.of
