use Rattle.drawing_command.proofs.Told.{when_refused}
use Rattle.drawing_command.proofs.telling.draw_history.Goals as goal

pub returns-in-Ok-clause-refused : goal.returns-in-Ok-clause-refused
returns-in-Ok-clause-refused g c = λ fault first. absurd (c.in-Ok.ensures.refused fault first)

pub returns-in-Err-clause-refused : goal.returns-in-Err-clause-refused
returns-in-Err-clause-refused g c = λ fault first.
    when_refused c.tell_stop.result (g.O.Output.contents c.args.output.now) (g.O.Output.contents c.tell_stop.new.output) c.in-Err.stop
    (c.in-Err.ensures.refused fault first) c.tell_stop.ensures
