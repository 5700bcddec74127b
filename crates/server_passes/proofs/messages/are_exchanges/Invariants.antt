use Rattle.std.proofs.Common.{◌≡◌, take}
use Rattle.server_passes.specs.Lanes.{exchanges_in}
use Rattle.server_passes.proofs.messages.are_exchanges.Given as goal

abbrev pub invariant-loop-index : goal.invariant-loop-index
invariant-loop-index l = take l.index l.exchanges ≡ exchanges_in l.events (take l.index l.calls)
