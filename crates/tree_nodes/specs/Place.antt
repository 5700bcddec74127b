-- For the prover, and for callers.
-- where objects stand in a tree, by their numbers
use Rattle.std.specs.Prelude.{◌≡◌, ℕ, Bool, not, ◌||◌, List, [], ◌∷◌, ◌++◌, length, slice_index_or, Option, option_and_then, option_map}
use Rattle.std.specs.List.{list_all}
use Rattle.std.specs.Ordering.{nat_cmp}
use Rattle.std.specs.Cmp.Lexicographic.{slice_cmp}
use Rattle.std.specs.BTreeSet.{BTreeSet, contains}
use Rattle.std.specs.FinMap as map
use Rattle.tree_stores.specs.Names.{Objects}
use Rattle.tree_nodes.specs.declared.node.Node.{Node}
use Rattle.tree_nodes.specs.Tree.{Names, Tree, parent, is_in, entry_of}

-- the path of an object
abbrev pub path_of : Tree → ℕ → Option Names
path_of tree object = option_map (λ e. e.0) (entry_of tree object)

-- the node of a name in a directory
abbrev pub node_in : Tree → ℕ → List ℕ → Option Node
node_in tree directory name = option_and_then (λ e. map.get tree (e.0 ++ name ∷ [])) (entry_of tree directory)

-- these are the names in a directory, each once and in their order, with their objects
abbrev pub AreNamesIn : Tree → ℕ → List (List ℕ × ℕ) → Type 0
AreNamesIn tree directory names = (objects : Objects) × (names ≡ map.entries objects)
    × ((name : List ℕ) → map.get objects name ≡ option_map (λ n. n.object) (node_in tree directory name))

-- the object of the directory that an object lies in; the root lies in itself, RFC 1813, section 3.3.3
abbrev pub object_above : Tree → ℕ → Option ℕ
object_above tree object = option_and_then (λ e. option_map (λ n. n.object) (map.get tree (parent e.0))) (entry_of tree object)

-- whether the name of each entry of a directory is among these
abbrev pub are_among : BTreeSet (List ℕ) → Tree → Names → Bool
are_among names tree directory =
    list_all (λ e. not (is_in e.0 directory) || contains (slice_cmp nat_cmp) names (slice_index_or e.0 (length directory) [])) (map.entries tree)
