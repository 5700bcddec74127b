use Rattle.std.proofs.Common.{◌≡◌, length}
use Rattle.history_file.specs.Owning.{all_seen}
use Rattle.history_mending.specs.Steps.{IsReadTo}
use Rattle.history_mending.proofs.events.whole_events.Given as goal

abbrev pub invariant-loop-index : goal.invariant-loop-index
invariant-loop-index l = IsReadTo l.beyond l.body (all_seen l.events.items) l.known l.rest × (length l.events.items ≡ l.index)
