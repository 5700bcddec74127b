use Rattle.std.proofs.Common.{◌≡◌, ℕ, take}
use Rattle.std.specs.List.{filter_map}
use Rattle.server_passes.specs.Lanes.{answered_on, calls_on}
use Rattle.server_passes.proofs.lanes.LaneCalls.of_calls.Given as goal

abbrev pub invariant-loop-call : goal.invariant-loop-call
invariant-loop-call l = (lane : ℕ) → calls_on l.lanes lane ≡ filter_map (answered_on lane) (take l.call-index l.calls)
