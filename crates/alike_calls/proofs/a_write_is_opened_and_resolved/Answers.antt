use Rattle.alike_calls.proofs.WritesSame.{commute, others_stay, same_fillings, same_on_files, nothing_open, agreed_touched}
use Rattle.alike_calls.proofs.WritesPut.{each_fits}
use Rattle.alike_calls.proofs.WritesOpen.{opened, resolved}
use Rattle.alike_calls.proofs.a_write_is_opened_and_resolved.Goals as goal

pub returns-clause-opened : goal.returns-clause-opened
returns-clause-opened c = λ bytes binds tree other object call free alike. opened bytes binds tree other object call free alike

pub returns-clause-resolved : goal.returns-clause-resolved
returns-clause-resolved c = λ bytes binds tree other object call number count free alike. resolved bytes binds tree other object call free number count alike

pub returns-clause-fit : goal.returns-clause-fit
returns-clause-fit c = each_fits

pub returns-clause-commute : goal.returns-clause-commute
returns-clause-commute c = commute

pub returns-clause-others : goal.returns-clause-others
returns-clause-others c = others_stay

pub returns-clause-fillings : goal.returns-clause-fillings
returns-clause-fillings c = same_fillings

pub returns-clause-files : goal.returns-clause-files
returns-clause-files c = same_on_files

pub returns-clause-nothing : goal.returns-clause-nothing
returns-clause-nothing c = nothing_open

pub returns-clause-handles : goal.returns-clause-handles
returns-clause-handles c = agreed_touched
