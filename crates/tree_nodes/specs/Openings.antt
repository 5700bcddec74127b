-- For the prover.
-- the table of the opening tree
use Rattle.std.specs.Prelude.{◌≡◌, ℕ, List, [], Some, None}
use Rattle.std.specs.FinMap as map
use Rattle.tree_nodes.specs.declared.node.Content.TheVariants.{Directory}
use Rattle.tree_nodes.specs.Table.{Table, child, held}

-- the root alone, a directory, object 0
pub record IsOpening (entries : Table) : Type 0 where
  pub root : held entries 0 ≡ Some (0, [], record { object = 0; content = Directory })
  pub others : (object : ℕ) → (object ≡ 0 → ⊥) → held entries object ≡ None
  pub bare : (object : ℕ) (name : List ℕ) → child entries object name ≡ None
  pub len : map.len entries ≡ 1
