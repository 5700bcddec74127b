use Rattle.std.proofs.Common.{◌≡◌}
use Rattle.decision_core.specs.States.{ComeOf}
use Rattle.decision_core.specs.Layers.{Grows, IsPutInto}
use Rattle.decision_core.proofs.Sets.{DoneOrLeft}
use Rattle.decision_core.proofs.extending.put_all.Given as goal

abbrev pub invariant-loop-state : goal.invariant-loop-state
invariant-loop-state g l = (Grows l.fn.with.items.items l.with.items.items × Grows l.fn.without.items.items l.without.items.items)
    × DoneOrLeft (IsPutInto (g.M.Machine.StandsFor l.machine) (g.M.Machine.placed l.machine) (g.M.Machine.Next l.machine) l.calls l.n l.with.items.items l.without.items.items) l.fn.states.items
    l.state-iterator.rest.items
    × (ComeOf (g.M.Machine.origin) g.of l.state-iterator.rest.items × ComeOf (g.M.Machine.origin) g.of l.with.items.items × ComeOf (g.M.Machine.origin) g.of l.without.items.items)

abbrev pub ghost-put_settled : goal.ghost-put_settled
ghost-put_settled g a = g.of
