use Rattle.history_file.proofs.WritingSteps.{IsWrittenTo}
use Rattle.history_file.proofs.writing.put_events.Given as goal

abbrev pub invariant-loop-event : goal.invariant-loop-event
invariant-loop-event l = IsWrittenTo l.initial.out.items l.events l.event-index l.out.items
