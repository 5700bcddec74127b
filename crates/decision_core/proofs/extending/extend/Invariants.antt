use Rattle.decision_core.specs.States.{ComeOf}
use Rattle.decision_core.specs.Layers.{CompletesOrAwaits}
use Rattle.decision_core.proofs.extending.extend.Given as goal

abbrev pub invariant-loop-round : goal.invariant-loop-round
invariant-loop-round g l = CompletesOrAwaits (g.M.Machine.StandsFor l.machine) (g.M.Machine.placed l.machine) (g.M.Machine.Next l.machine) l.calls l.n l.fn.states.items l.layer.items.items l.found.items.items
    × (ComeOf (g.M.Machine.origin) g.of l.layer.items.items × ComeOf (g.M.Machine.origin) g.of l.found.items.items)

abbrev pub ghost-sort_out : goal.ghost-sort_out
ghost-sort_out g a = g.of

abbrev pub ghost-place_in_all : goal.ghost-place_in_all
ghost-place_in_all g a = g.of
