use Rattle.showing_command.proofs.ShownLines.{IsShown}
use Rattle.showing_command.proofs.showing.put_lines.Given as goal

abbrev pub invariant-loop : goal.invariant-loop
invariant-loop g l = IsShown (g.O.Output.contents l.fn.output) (g.O.Output.contents l.output)
