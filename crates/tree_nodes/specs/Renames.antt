-- For the prover.
-- a table after a rename
use Rattle.std.specs.Prelude.{◌≡◌, ◌<◌, ◌≤◌, ℕ, List, Some, None, option_and_then, option_map}
use Rattle.std.specs.FinMap as map
use Rattle.tree_nodes.specs.declared.undo.Move.{Move}
use Rattle.tree_nodes.specs.Walk.{Held}
use Rattle.tree_nodes.specs.Table.{Table, child, held, placed}

-- an object lies under another name, and what lay there is gone
pub record IsRenamed (object directory : ℕ) (name : List ℕ) (move : Move) (before after : Table) : Type 0 where
  pub object_is : move.object ≡ object
  pub lay : (h : Held) → held before object ≡ Some h → (move.place.parent ≡ h.0) × (move.place.name ≡ h.1)
  pub left : child after move.place.parent move.place.name ≡ None
  pub here : child after directory name ≡ Some object
  pub others : (other : ℕ) (any : List ℕ) → (other ≡ move.place.parent → any ≡ move.place.name → ⊥) → (other ≡ directory → any ≡ name → ⊥)
      → child after other any ≡ child before other any
  pub place : (h : Held) → held before object ≡ Some h → held after object ≡ Some (directory, name, h.2)
  pub kept : (other : ℕ) → (other ≡ object → ⊥) → (child before directory name ≡ Some other → ⊥) → held after other ≡ held before other
  pub gone : (other : ℕ) → child before directory name ≡ Some other → held after other ≡ None
  pub displaced : option_map placed move.displaced ≡ option_and_then (held before) (child before directory name)
  pub fewer : (other : ℕ) → child before directory name ≡ Some other → map.len after < map.len before
  pub len : map.len after ≤ map.len before
