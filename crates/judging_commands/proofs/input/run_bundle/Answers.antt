use Rattle.std.proofs.Common.{inl}
use Rattle.witness_check.specs.FaultText.{fault_words}
use Rattle.judging_commands.proofs.Told.{told_no}
use Rattle.judging_commands.proofs.input.run_bundle.Goals as goal

pub returns-in-Ok-clause-no : goal.returns-in-Ok-clause-no
returns-in-Ok-clause-no g c =
    told_no (g.I.Input.remaining c.args.input.now) (g.O.Output.contents c.args.output.now) (g.O.Output.contents c.tell_report.new.output)
    c.tell_report.result c.in-Ok.said.status c.in-Ok.said.line c.in-Ok.ensures.said c.tell_report.ensures.whole

pub returns-in-Ok-clause-told : goal.returns-in-Ok-clause-told
returns-in-Ok-clause-told g c = (c.in-Ok.said.line, inl (c.in-Ok.said.status, c.in-Ok.ensures.said), c.tell_report.ensures.front)

pub returns-in-Ok-clause-no_line : goal.returns-in-Ok-clause-no_line
returns-in-Ok-clause-no_line g c =
    λ one.
    let no =
    told_no (g.I.Input.remaining c.args.input.now) (g.O.Output.contents c.args.output.now) (g.O.Output.contents c.tell_report.new.output)
    c.tell_report.result c.in-Ok.said.status c.in-Ok.said.line c.in-Ok.ensures.said c.tell_report.ensures.whole one in
    (fault_words no.0, no.2)

pub returns-in-Ok-clause-exact : goal.returns-in-Ok-clause-exact
returns-in-Ok-clause-exact g c =
    λ bytes line status said all room _.
    let same = c.in-Ok.ensures.exact bytes line status said all in
    inl (rw (← same.0, ← same.1) (c.tell_report.ensures.sound (rw same.1 room)))
