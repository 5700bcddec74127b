use Rattle.std.proofs.Common.{◌≡◌, ◌++◌, take, length}
use Rattle.std.specs.Prelude.{All}
use Rattle.std.specs.List.{flat_map}
use Rattle.tree_nodes.specs.Printed.{word_text, opaque_text, IsShort}
use Rattle.tree_nodes.proofs.print.put_path.Given as goal

-- the names so far are put
abbrev pub invariant-loop-name : goal.invariant-loop-name
invariant-loop-name l =
    (l.out.items ≡ l.fn.out.items ++ (word_text (length l.path) ++ flat_map opaque_text (take l.name-index l.name-items))) × All IsShort (take l.name-index l.name-items)
