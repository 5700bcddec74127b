-- Believed.
-- a tree after a rename: RFC 1813, section 3.3.14
use Rattle.std.specs.Prelude.{Bool, if◌then◌else◌, List, [], ◌∷◌, ◌++◌, length, drop, nat_eq}
use Rattle.std.specs.List.{starts_with}
use Rattle.std.specs.Cmp.Lexicographic.{pointwise}
use Rattle.std.specs.FinMap as finite
use Rattle.tree_nodes.specs.declared.node.Node.{Node}
use Rattle.tree_nodes.specs.Tree.{Names, Tree, same_path}

-- whether a path is the one in front, or lies below it
abbrev pub is_from : Names → Names → Bool
is_from path front = starts_with (pointwise nat_eq) path front

-- where a path leads once what stood at p stands at q: each path p, r becomes q, r
abbrev pub moved_path : Names → Names → Names → Names
moved_path p q path = if is_from path p then q ++ drop (length p) path else path

-- the entries in their new places, without the one that stood at q
abbrev pub moved_entries : Names → Names → List (Names × Node) → List (Names × Node)
moved_entries p q [] = []
moved_entries p q (e ∷ entries) = if same_path e.0 q then moved_entries p q entries else (moved_path p q e.0, e.1) ∷ moved_entries p q entries

-- entries put into a tree; of two at one path the first stays
abbrev pub put_all : Tree → List (Names × Node) → Tree
put_all tree [] = tree
put_all tree (e ∷ entries) = finite.insert (put_all tree entries) e.0 e.1

abbrev pub moved : Tree → Names → Names → Tree
moved tree p q = put_all finite.empty (moved_entries p q (finite.entries tree))
