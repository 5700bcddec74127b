use Rattle.tree_nodes.proofs.Prints.{paths_are}
use Rattle.tree_nodes.proofs.nodes.Nodes.put_tree.Goals as goal

pub put_entries-requires-clause-paths : goal.put_entries-requires-clause-paths
put_entries-requires-clause-paths c = paths_are c.args.self.now c.in_ok-paths.paths c.in_ok-paths.ensures.ordered c.in_ok-paths.ensures.objects
