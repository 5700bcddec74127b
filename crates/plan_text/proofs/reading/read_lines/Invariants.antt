use Rattle.std.proofs.Common.{length}
use Rattle.plan_text.specs.Draft.{IsReadUpTo}
use Rattle.plan_text.proofs.reading.read_lines.Given as goal

abbrev pub invariant-loop-words : goal.invariant-loop-words
invariant-loop-words l = IsReadUpTo l.text l.draft l.rest

abbrev pub decreases-loop-words : goal.decreases-loop-words
decreases-loop-words l = length l.rest
