-- For the prover.
-- what a change makes of the steps and of what is held
use Rattle.std.specs.Prelude.{◌≡◌, ℕ, List, Some, None}
use Rattle.tree_nodes.specs.declared.node.Node.{Node}
use Rattle.tree_nodes.specs.Walk.{Steps, Held, Holds}

-- but for this name in this directory, the steps stay
abbrev pub SameBut : ℕ → List ℕ → Steps → Steps → Type 0
SameBut directory name before after = (object : ℕ) (other : List ℕ) → (object ≡ directory → other ≡ name → ⊥) → after object other ≡ before object other

-- but for this object, what is held stays
abbrev pub HeldBut : ℕ → Holds → Holds → Type 0
HeldBut object before after = (other : ℕ) → (other ≡ object → ⊥) → after other ≡ before other

-- an object more, under a name in a directory
pub record Adds (directory : ℕ) (name : List ℕ) (object : ℕ) (node : Node) (c d : Steps) (v w : Holds) : Type 0 where
  pub here : d directory name ≡ Some object
  pub others : SameBut directory name c d
  pub place : w object ≡ Some (directory, name, node)
  pub kept : HeldBut object v w

-- an object less
pub record Cuts (directory : ℕ) (name : List ℕ) (object : ℕ) (c d : Steps) (v w : Holds) : Type 0 where
  pub here : d directory name ≡ None
  pub others : SameBut directory name c d
  pub gone : w object ≡ None
  pub kept : HeldBut object v w

-- an object with another node, where it lies
pub record Sets (object : ℕ) (node : Node) (c d : Steps) (v w : Holds) : Type 0 where
  pub same : (directory : ℕ) (name : List ℕ) → d directory name ≡ c directory name
  pub place : (h : Held) → v object ≡ Some h → w object ≡ Some (h.0, h.1, node)
  pub kept : HeldBut object v w

-- an object under another name, maybe in another directory
pub record Shifts (object directory : ℕ) (name : List ℕ) (target : ℕ) (new : List ℕ) (c d : Steps) (v w : Holds) : Type 0 where
  pub left : d directory name ≡ None
  pub here : d target new ≡ Some object
  pub others : (other : ℕ) (any : List ℕ) → (other ≡ directory → any ≡ name → ⊥) → (other ≡ target → any ≡ new → ⊥) → d other any ≡ c other any
  pub place : (h : Held) → v object ≡ Some h → w object ≡ Some (target, new, h.2)
  pub kept : HeldBut object v w
