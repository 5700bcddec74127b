use Rattle.deciding_command.specs.Told.{Grows}
use Rattle.deciding_command.proofs.hints.tell_rests.Given as goal

abbrev pub invariant-loop : goal.invariant-loop
invariant-loop g l = Grows (g.O.Output.contents l.fn.output) (g.O.Output.contents l.output)
