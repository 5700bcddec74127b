use Rattle.std.proofs.Common.{◌≡◌, ◌++◌, drop}
use Rattle.capture_history.specs.Streams.{joined_bytes}
use Rattle.capture_history.proofs.stream.stream_of.Given as goal

abbrev pub invariant-loop-run : goal.invariant-loop-run
invariant-loop-run l = l.bytes.items ++ joined_bytes l.payloads (drop l.run-index l.run-items) ≡ joined_bytes l.payloads l.run-items
