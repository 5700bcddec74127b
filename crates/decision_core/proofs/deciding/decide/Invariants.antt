use Rattle.std.proofs.Common.{◌<◌, length}
use Rattle.decision_core.specs.States.{ComeOf, first_origin}
use Rattle.decision_core.specs.Times.{Times}
use Rattle.decision_core.specs.Events.{Tells}
use Rattle.decision_core.proofs.OneEvent.{Keeps}
use Rattle.decision_core.proofs.deciding.decide.Given as goal

abbrev pub invariant-loop-index : goal.invariant-loop-index
invariant-loop-index g l = (0 < length l.states.items) × ((times : Times) (tells : Tells times l.events)
    → Keeps times l.events tells (g.M.Machine.StandsFor l.machine) (g.M.Machine.placed l.machine) (g.M.Machine.Next l.machine) (g.met.M.Machine.told l.machine)
    (g.M.Machine.first l.machine) l.index l.waiting.items l.states.items)
    × ComeOf (g.M.Machine.origin) (first_origin (g.M.Machine.origin) l.states.items) l.states.items

abbrev pub ghost-take_event : goal.ghost-take_event
ghost-take_event g a = first_origin (g.M.Machine.origin) a.states.items

abbrev pub ghost-renewed : goal.ghost-renewed
ghost-renewed g a = first_origin (g.M.Machine.origin) a.states.items
