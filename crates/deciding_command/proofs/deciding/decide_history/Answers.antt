use Rattle.deciding_command.proofs.NoText.{never_of_no, told_of_no}
use Rattle.deciding_command.proofs.deciding.decide_history.Goals as goal

pub returns-in-Ok-clause-no : goal.returns-in-Ok-clause-no
returns-in-Ok-clause-no g c = λ one. never_of_no c.args.history.now c.in-Ok.decision c.in-Ok.ensures.decided (c.tell_all.ensures.no one)

pub returns-in-Ok-clause-told : goal.returns-in-Ok-clause-told
returns-in-Ok-clause-told g c = λ one.
    let old = g.O.Output.contents c.args.output.now in
    let new = g.O.Output.contents c.tell_all.new.output in
    told_of_no c.args.history.now c.in-Ok.decision old new c.args.request.now.go_on c.in-Ok.ensures.decided (c.tell_all.ensures.no one) (c.tell_all.ensures.told one)

pub returns-in-Ok-clause-refused : goal.returns-in-Ok-clause-refused
returns-in-Ok-clause-refused g c = λ fault first. c.tell_all.ensures.refused (c.in-Ok.ensures.refused fault first)
