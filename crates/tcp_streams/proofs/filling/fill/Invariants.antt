use Rattle.std.proofs.Common.{◌≤◌, ℕ}
use Rattle.tcp_streams.specs.Orders.{IsBehind}
use Rattle.tcp_streams.proofs.Fills.{IsFilledTo}
use Rattle.tcp_streams.proofs.filling.fill.Given as goal

abbrev pub invariant-loop-run : goal.invariant-loop-run
invariant-loop-run l = (low n : ℕ) → IsBehind low l.waiting → low ≤ l.fn.span.at → IsFilledTo low n l.waiting l.fn.span l.run-index l.runs.items l.rest
