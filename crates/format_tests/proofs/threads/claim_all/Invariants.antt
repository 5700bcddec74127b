use Rattle.std.proofs.Common.{◌+◌, ◌≤◌}
use Rattle.seen_states.specs.Handles.{IsOf}
use Rattle.format_tests.proofs.threads.claim_all.Given as goal

abbrev pub invariant-loop-number : goal.invariant-loop-number
invariant-loop-number l = IsOf l.claimer l.table × (l.tally.new + l.tally.seen + l.tally.full ≤ l.number)
