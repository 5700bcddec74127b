use Rattle.std.proofs.Common.{rules, List, Contains}
use Rattle.decision_core.specs.States.{HasSteps}
use Rattle.decision_core.specs.Layers.{Grows, IsPutInto}
use Rattle.decision_core.proofs.Sets.{steps_put}
use Rattle.decision_core.proofs.extending.place_calls.Goals as goal

pub returns-clause-placings : goal.returns-clause-placings
returns-clause-placings g c =
    let p : (Grows c.args.with.now.items.items c.put_all.new.with.items.items × Grows c.args.without.now.items.items c.put_all.new.without.items.items)
    × ((s : g.row.M-State.Denot) → Contains c.in_ok-after.after.items s → IsPutInto (g.M.Machine.StandsFor c.args.machine.now) (g.M.Machine.placed c.args.machine.now) (g.M.Machine.Next c.args.machine.now) c.args.calls.now c.args.n c.put_all.new.with.items.items c.put_all.new.without.items.items s) = search rules in
    let given : HasSteps (g.M.Machine.StandsFor c.args.machine.now) (g.M.Machine.placed c.args.machine.now) (g.M.Machine.Next c.args.machine.now) c.in_ok-after.after.items c.args.calls.now c.args.state.now = search rules in
    (p.0, steps_put (g.M.Machine.StandsFor c.args.machine.now) (g.M.Machine.placed c.args.machine.now) (g.M.Machine.Next c.args.machine.now) c.args.calls.now c.args.n c.in_ok-after.after.items c.put_all.new.with.items.items c.put_all.new.without.items.items c.args.calls.now c.args.state.now given p.1)
