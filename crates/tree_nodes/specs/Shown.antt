-- For the prover.
-- the tree that a table shows
use Rattle.std.specs.Prelude.{◌≡◌, ◌≤◌}
use Rattle.std.proofs.Common.{sym, ◌∙◌}
use Rattle.std.specs.Cmp.{IsTotalOrder}
use Rattle.std.specs.Coded.{Coded-set, coded_option}
use Rattle.std.proofs.lemmas.Cmp.{nat_list_cmp_total, lists_total}
use mathlib.Core.HLevel.{Σ_prop_path, Π_prop}
use Rattle.std.specs.FinMap as map
use Rattle.tree_nodes.specs.Tree.{Names, Tree, path_cmp}
use Rattle.tree_nodes.specs.Codes.{node_code}
use Rattle.tree_nodes.specs.Files.{node_limit}
use Rattle.tree_nodes.specs.Walk.{seen, IsTree}
use Rattle.tree_nodes.specs.Table.{Table, child, held}
use Rattle.tree_nodes.specs.declared.ranks.Ranks.{Ranks}
use Rattle.tree_nodes.specs.Ranks.{rank_of, IsRanked}

-- paths are in a total order, and only equal ones tie
pub path_total : IsTotalOrder path_cmp
path_total = lists_total nat_list_cmp_total

pub path_ties : map.IsAntisymmetric path_cmp
path_ties = map.slice_cmp-IsAntisymmetric (map.slice_cmp-IsAntisymmetric map.nat_cmp-IsAntisymmetric)

-- the node at each path is the one that its names lead to
abbrev pub Agrees : Table → Tree → Type 0
Agrees entries tree = (path : Names) → map.get tree path ≡ seen (child entries) (held entries) path

abbrev pub Shown : Table → Type 0
Shown entries = (tree : Tree) × Agrees entries tree

-- a table shows one tree
pub Shown-prop : (entries : Table) → IsProp (Shown entries)
Shown-prop entries a b = Σ_prop_path {A = Tree} {B = λ tree. Agrees entries tree}
    (λ tree. Π_prop (λ path. Coded-set (coded_option node_code) (map.get tree path) (seen (child entries) (held entries) path))) {u = a} {v = b}
    (map.same_map path_total path_ties a.0 b.0 (λ path. a.1 path ∙ sym (b.1 path)))

-- what every table keeps
pub record IsTable (entries : Table) : Type 0 where
  pub tree : IsTree (child entries) (held entries)
  pub few : map.len entries ≤ node_limit

-- what stands with the ranks of its objects
pub record IsKept (entries : Table) (ranks : Ranks) : Type 0 where
  pub table : IsTable entries
  pub ranked : IsRanked (held entries) (rank_of ranks)

-- a table that shows a tree
pub record IsTableOf (entries : Table) (tree : Tree) : Type 0 where
  pub table : IsTable entries
  pub agrees : Agrees entries tree
