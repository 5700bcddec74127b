use Rattle.std.proofs.Common.{length}
use Rattle.capture_history.proofs.Made.{HasMade}
use Rattle.capture_history.proofs.way.take_events.Given as goal

abbrev pub invariant-loop-message : goal.invariant-loop-message
invariant-loop-message l = HasMade l.lane l.kind l.fn.feed.waiting l.feed.waiting l.found.items

abbrev pub decreases-loop-message : goal.decreases-loop-message
decreases-loop-message l = length l.feed.waiting
