use Rattle.journal.proofs.Rebuilt.{found_so, bad_so, only_so}
use Rattle.journal.proofs.rebuilding.rebuild_from.Goals as goal

pub returns-clause-found : goal.returns-clause-found
returns-clause-found c = found_so c.args.profile c.args.start.now c.args.records.now c.tree_of.result c.tree_of.ensures.found

pub returns-clause-bad : goal.returns-clause-bad
returns-clause-bad c = bad_so c.args.profile c.args.start.now c.args.records.now c.tree_of.result c.tree_of.ensures.fault

pub returns-clause-only : goal.returns-clause-only
returns-clause-only c = only_so c.args.profile c.args.start.now c.args.records.now c.tree_of.result c.tree_of.ensures.found c.tree_of.ensures.fault
