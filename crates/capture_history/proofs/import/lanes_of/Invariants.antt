use Rattle.std.proofs.Common.{take}
use Rattle.capture_history.specs.Lanes.{AreLanes}
use Rattle.capture_history.proofs.import.lanes_of.Given as goal

abbrev pub invariant-loop-index : goal.invariant-loop-index
invariant-loop-index l = AreLanes l.index (take l.index l.connections) l.found.items l.notes.items
