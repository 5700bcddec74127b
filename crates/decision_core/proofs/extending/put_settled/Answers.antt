use Rattle.std.proofs.Common.{rules}
use Rattle.decision_core.specs.States.{Settles}
use Rattle.decision_core.specs.Layers.{Grows, IsSortedInto}
use Rattle.decision_core.proofs.Sets.{settled_sorted}
use Rattle.decision_core.proofs.extending.put_settled.Goals as goal

pub returns-clause-put : goal.returns-clause-put
returns-clause-put g c =
    let settles : Settles (g.M.Machine.StandsFor c.args.machine.now) (g.M.Machine.placed c.args.machine.now) (g.M.Machine.Next c.args.machine.now) c.args.calls.now c.args.state c.in_ok-settled.settled = search rules in
    let sorted : (Grows c.args.with.now.items.items c.sort_into.new.with.items.items × Grows c.args.without.now.items.items c.sort_into.new.without.items.items)
    × IsSortedInto (g.M.Machine.StandsFor c.args.machine.now) (g.M.Machine.placed c.args.machine.now) (g.M.Machine.Next c.args.machine.now) c.args.n c.sort_into.new.with.items.items c.sort_into.new.without.items.items c.in_ok-settled.settled = search rules in
    (sorted.0, settled_sorted (g.M.Machine.StandsFor c.args.machine.now) (g.M.Machine.placed c.args.machine.now) (g.M.Machine.Next c.args.machine.now) c.args.calls.now c.args.n c.sort_into.new.with.items.items c.sort_into.new.without.items.items c.args.state c.in_ok-settled.settled settles sorted.1)
