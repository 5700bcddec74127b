use Rattle.std.proofs.Common.{take}
use Rattle.decision_core.specs.States.{ComeOf}
use Rattle.decision_core.specs.Layers.{Grows, HasAllPlacings}
use Rattle.decision_core.proofs.extending.place_in_all.Given as goal

abbrev pub invariant-loop-state : goal.invariant-loop-state
invariant-loop-state g l = (Grows l.fn.with.items.items l.with.items.items × Grows l.fn.without.items.items l.without.items.items)
    × HasAllPlacings (g.M.Machine.StandsFor l.machine) (g.M.Machine.placed l.machine) (g.M.Machine.Next l.machine) l.calls l.n l.with.items.items l.without.items.items (take l.state-index l.each)
    × (ComeOf (g.M.Machine.origin) g.of l.with.items.items × ComeOf (g.M.Machine.origin) g.of l.without.items.items)

abbrev pub ghost-place_calls : goal.ghost-place_calls
ghost-place_calls g a = g.of
