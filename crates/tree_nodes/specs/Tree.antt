-- Believed.
-- the file tree: RFC 1813, section 2.6 (`ftype3`) and section 3.3.3
use Rattle.std.specs.Prelude.{ℕ, ◌==◌, ◌-◌, ◌+◌, Bool, not, ◌&&◌, nat_eq, nat_lt, List, [], length, take, Option, find}
use Rattle.std.specs.List.{list_any, starts_with}
use Rattle.std.specs.Ordering.{nat_cmp}
use Rattle.std.specs.declared.cmp.Ordering.{Ordering}
use Rattle.std.specs.Cmp.Lexicographic.{slice_cmp, pointwise}
use Rattle.std.specs.FinMap as map
use Rattle.tree_nodes.specs.declared.node.Node.{Node}
use Rattle.tree_nodes.specs.declared.node.Content.TheVariants.{Directory}

-- the names from the root down, each a list of bytes
abbrev pub Names : Type 0
Names = List (List ℕ)

-- paths name by name, names byte by byte, a front first
abbrev pub path_cmp : Names → Names → Ordering
path_cmp = slice_cmp (slice_cmp nat_cmp)

abbrev pub same_path : Names → Names → Bool
same_path = pointwise (pointwise nat_eq)

-- the path of the directory that a path lies in; the root lies in itself, RFC 1813, section 3.3.3
abbrev pub parent : Names → Names
parent path = take (length path - 1) path

-- whether a path lies below another one, at any depth
abbrev pub is_below : Names → Names → Bool
is_below path front = nat_lt (length front) (length path) && starts_with (pointwise nat_eq) path front

-- whether a path is that of an entry of a directory
abbrev pub is_in : Names → Names → Bool
is_in path directory = (length path == length directory + 1) && starts_with (pointwise nat_eq) path directory

-- at most one node at each path
abbrev pub Tree : Type 0
Tree = map.FinMap path_cmp Node

-- the tree before any call where nothing stood at first: the root alone, a directory, object 0
unfoldable pub opening : Tree
opening = map.insert map.empty [] (record { object = 0; content = Directory })

-- the first entry of an object, where it stands at some path
abbrev pub entry_of : Tree → ℕ → Option (Names × Node)
entry_of tree object = find (λ e. e.1.object == object) (map.entries tree)

-- whether nothing lies below a path
abbrev pub is_bare : Tree → Names → Bool
is_bare tree path = not (list_any (λ e. is_below e.0 path) (map.entries tree))
