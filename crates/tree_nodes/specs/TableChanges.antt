-- For the prover.
-- what a step on the table makes of it
use Rattle.std.specs.Prelude.{◌≡◌, ℕ, List, Option, Some, None}
use Rattle.std.specs.FinMap as map
use Rattle.tree_nodes.specs.declared.table.Entry.{Entry}
use Rattle.tree_nodes.specs.declared.table.Place.{Place}
use Rattle.tree_nodes.specs.Walk.{Held}
use Rattle.tree_nodes.specs.Changes.{SameBut, Shifts}
use Rattle.tree_nodes.specs.Table.{Table, child, held}

-- each name leads where it led, and each object lies where it lay
pub record IsSame (before after : Table) : Type 0 where
  pub steps : (object : ℕ) (name : List ℕ) → child after object name ≡ child before object name
  pub places : (object : ℕ) → held after object ≡ held before object
  pub len : map.len after ≡ map.len before

-- a name in a directory leads to this object, or to none
pub record HasName (directory : ℕ) (name : List ℕ) (object : Option ℕ) (before after : Table) : Type 0 where
  pub here : child after directory name ≡ object
  pub others : SameBut directory name (child before) (child after)
  pub places : (other : ℕ) → held after other ≡ held before other
  pub len : map.len after ≡ map.len before

-- a name in one directory leads to this object, and one in another directory, or in the same, to none
pub record HasTwoNames (directory : ℕ) (old : List ℕ) (target : ℕ) (new : List ℕ) (object : ℕ) (before after : Table) : Type 0 where
  pub left : child after directory old ≡ None
  pub here : child after target new ≡ Some object
  pub others : (other : ℕ) (any : List ℕ) → (other ≡ directory → any ≡ old → ⊥) → (other ≡ target → any ≡ new → ⊥) → child after other any ≡ child before other any
  pub places : (other : ℕ) → held after other ≡ held before other
  pub len : map.len after ≡ map.len before

-- an object lies under the name of another one, which is gone
pub record ShiftsOver (object : ℕ) (lay : Place) (target : ℕ) (new : List ℕ) (other : ℕ) (gone : Option Entry) (before after : Table) : Type 0 where
  pub between : Table
  pub lain : (h : Held) → held before object ≡ Some h → (lay.parent ≡ h.0) × (lay.name ≡ h.1)
  pub shifts : Shifts object lay.parent lay.name target new (child before) (child between) (held before) (held between)
  pub len : map.len between ≡ map.len before
  pub taken : after ≡ map.remove between other
  pub value : gone ≡ map.get between other
