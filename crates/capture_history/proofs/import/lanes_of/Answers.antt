use Rattle.std.proofs.Common.{◌<◌, length, arith, rules}
use Rattle.capture_history.specs.Lanes.AreLanes.{none}
use Rattle.capture_history.proofs.Numbered.{lanes_at}
use Rattle.capture_history.proofs.import.lanes_of.Goals as goal

pub loop-index-init : goal.loop-index-init
loop-index-init c = rw (c.new-found.ensures.items, c.new-notes.ensures.items) none

pub loop-index-preserved : goal.loop-index-preserved
loop-index-preserved c =
    let lt : c.loop-index.index < length c.args.connections.now = omega arith in
    lanes_at c.args.connections.now c.loop-index.index c.in-Ok.lane c.index-connections-index.result c.loop-index.found.items c.loop-index.notes.items _ _ lt c.index-connections-index.is (search rules) c.loop-index.invariant c.in_ok-put_told.ensures
