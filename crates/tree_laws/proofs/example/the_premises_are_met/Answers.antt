use Rattle.tree_laws.proofs.Replayed.{all_steps}
use Rattle.tree_laws.proofs.Begun.{starts_right, runs_behind}
use Rattle.tree_laws.proofs.example.the_premises_are_met.Goals as goal

pub returns-clause-run : goal.returns-clause-run
returns-clause-run c = all_steps

pub returns-clause-start : goal.returns-clause-start
returns-clause-start c = starts_right

pub returns-clause-behind : goal.returns-clause-behind
returns-clause-behind c = runs_behind
