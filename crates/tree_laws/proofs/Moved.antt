-- what stands where in a tree after a move
use Rattle.std.proofs.Common.{◌≡◌, true, false}
use Rattle.std.specs.Prelude.{IsSome}
use Rattle.std.specs.FinMap as map
use Rattle.tree_nodes.specs.Tree.{Names, Tree, is_bare}
use Rattle.tree_nodes.specs.Moved.{is_from, moved}
use Rattle.tree_nodes.proofs.MovedLaw.{has_moved as moves}
use Rattle.tree_laws.specs.Renaming.{HasMoved}

module _ (tree : Tree) (p q : Names) (stood : IsSome (map.get tree p)) (outside : is_from q p ≡ false) (bare : is_bare tree q ≡ true) where
  pub has_moved : HasMoved p q tree (moved tree p q)
  has_moved =
      let m = moves tree p q stood outside bare in
      record { along = m.along; gone = m.gone; others = m.others }
