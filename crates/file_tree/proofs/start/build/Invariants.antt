use Rattle.std.proofs.Common.{◌≡◌, take, map}
use Rattle.tree_starts.specs.Seen.{seen_object}
use Rattle.file_tree.specs.Built.{Built}
use Rattle.file_tree.specs.StartTree.{start_tree}
use Rattle.file_tree.proofs.start.build.Given as goal

-- the objects so far stand, and they are the tree
abbrev pub invariant-loop-index : goal.invariant-loop-index
invariant-loop-index l = record {
  built : Built l.nodes (map seen_object (take l.index l.objects)) l.index;
  is : l.nodes ≡ start_tree (map seen_object (take l.index l.objects));
}
