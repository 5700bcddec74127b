use Rattle.explaining_command.proofs.Told.{yes_behind, no_behind}
use Rattle.explaining_command.proofs.deciding.explain_history.Goals as goal

pub returns-clause-yes : goal.returns-clause-yes
returns-clause-yes g c = yes_behind _ _ _ _ c.in_ok-decision.ensures.decided c.in_ok-told.ensures.yes c.with_behind.ensures.status

pub returns-clause-no : goal.returns-clause-no
returns-clause-no g c = no_behind _ _ _ _ c.in_ok-decision.ensures.decided c.in_ok-told.ensures.no c.with_behind.ensures.status
