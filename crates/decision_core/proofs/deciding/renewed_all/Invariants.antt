use Rattle.std.proofs.Common.{◌≡◌, ◌+◌, length, Some}
use Rattle.decision_core.specs.States.{ComeOf, HasFor}
use Rattle.decision_core.proofs.Sets.{DoneOrLeft}
use Rattle.decision_core.proofs.deciding.renewed_all.Given as goal

abbrev pub invariant-loop-state : goal.invariant-loop-state
invariant-loop-state g l = DoneOrLeft (HasFor (g.M.Machine.StandsFor l.machine) l.after.items) l.fn.states.items l.state-iterator.rest.items
    × ((length l.after.items + length l.state-iterator.rest.items ≡ length l.fn.states.items)
    × ComeOf (g.M.Machine.origin) (Some (g.M.Machine.origin l.first)) l.state-iterator.rest.items
    × ComeOf (g.M.Machine.origin) (Some (g.M.Machine.itself l.first)) l.after.items)
