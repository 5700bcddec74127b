use Rattle.std.proofs.Common.{◌≡◌, ◌++◌}
use Rattle.capture_history.specs.Lanes.{in_time}
use Rattle.capture_history.proofs.lane.put_in_time.Given as goal

abbrev pub invariant-loop-event : goal.invariant-loop-event
invariant-loop-event l = l.found.items ≡ l.fn.found.items ++ in_time l.last l.yielded
