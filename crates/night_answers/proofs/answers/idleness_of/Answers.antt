use Rattle.std.proofs.Common.{◌∙◌}
use Rattle.night_answers.proofs.Notes.{all_noted, first_noted}
use Rattle.night_answers.proofs.answers.idleness_of.Goals as goal

pub returns-clause-all : goal.returns-clause-all
returns-clause-all c = all_noted c.args.history.now.calls c.as_slice.result.now c.idle_noted.result c.idle_noted.ensures (c.as_slice.ensures.value ∙ c.in_ok-notes.ensures)

pub returns-clause-procedure : goal.returns-clause-procedure
returns-clause-procedure c =
    first_noted c.args.history.now.calls c.as_slice-2.result.now c.first_idle.result c.first_idle.ensures (c.as_slice-2.ensures.value ∙ c.in_ok-notes.ensures)
