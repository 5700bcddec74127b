use Rattle.std.proofs.Common.{length}
use Rattle.recording_command.proofs.Saved.{IsSoFar}
use Rattle.recording_command.proofs.saving.write_events.Given as goal

abbrev pub invariant-loop-rest : goal.invariant-loop-rest
invariant-loop-rest g l = IsSoFar (g.W.Write.contents l.fn.writer) (g.W.Write.contents l.writer) l.events l.rest l.ahead l.size

abbrev pub decreases-loop-rest : goal.decreases-loop-rest
decreases-loop-rest g l = length l.rest
