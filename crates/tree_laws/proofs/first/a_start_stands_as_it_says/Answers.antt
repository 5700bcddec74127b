use Rattle.tree_laws.proofs.Starting.{start_formed, each_stands, nothing_else, none_further}
use Rattle.tree_laws.proofs.first.a_start_stands_as_it_says.Goals as goal

pub returns-clause-formed : goal.returns-clause-formed
returns-clause-formed c = start_formed

pub returns-clause-each : goal.returns-clause-each
returns-clause-each c = each_stands

pub returns-clause-nothing_else : goal.returns-clause-nothing_else
returns-clause-nothing_else c = nothing_else

pub returns-clause-further : goal.returns-clause-further
returns-clause-further c = none_further
