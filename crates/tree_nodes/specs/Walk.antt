-- For the prover.
-- a tree as steps from object to object: what lies in each under a name, and where each lies with its node
use Rattle.std.specs.Prelude.{◌≡◌, ℕ, List, [], ◌∷◌, Option, Some, IsSome, option_and_then, option_map}
use Rattle.tree_nodes.specs.declared.node.Node.{Node}
use Rattle.tree_nodes.specs.Tree.{Names}

-- the object that a directory has under a name
abbrev pub Steps : Type 0
Steps = ℕ → List ℕ → Option ℕ

-- the directory that an object lies in, its name there, and its node
abbrev pub Held : Type 0
Held = ℕ × List ℕ × Node

abbrev pub Holds : Type 0
Holds = ℕ → Option Held

-- the object that names lead to, from an object on
abbrev pub walk : Steps → ℕ → Names → Option ℕ
walk step object [] = Some object
walk step object (name ∷ names) = option_and_then (λ next. walk step next names) (step object name)

abbrev pub node_of : Holds → ℕ → Option Node
node_of holds object = option_map {T = Held} (λ h. h.2) (holds object)

-- the node that a path leads to, from the root on
abbrev pub seen : Steps → Holds → Names → Option Node
seen step holds path = option_and_then (node_of holds) (walk step 0 path)

-- the objects hang together: what lies in a directory knows it and its own name there, the root lies in nothing but itself,
-- and from it a path leads to each object
pub record IsTree (step : Steps) (holds : Holds) : Type 0 where
  pub root : (h : Held) × (holds 0 ≡ Some h) × (h.0 ≡ 0)
  pub numbered : (object : ℕ) (h : Held) → holds object ≡ Some h → h.2.object ≡ object
  pub down : (object : ℕ) (name : List ℕ) (next : ℕ) → step object name ≡ Some next → (h : Held) × (holds next ≡ Some h) × (h.0 ≡ object) × (h.1 ≡ name)
  pub above : (object : ℕ) (name : List ℕ) → step object name ≡ Some 0 → ⊥
  pub hangs : (object : ℕ) → IsSome (holds object) → (path : Names) × (walk step 0 path ≡ Some object)

-- no names lead from the front to an object
abbrev pub IsBeyond : Steps → ℕ → ℕ → Type 0
IsBeyond step object front = (names : Names) → walk step front names ≡ Some object → ⊥
