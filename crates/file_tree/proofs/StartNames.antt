-- a name that no earlier object has in its directory is free there
use Rattle.std.proofs.Common.{◌≡◌, ℕ, ◌⊎◌, inl, inr, List, [], ◌∷◌, ◌++◌, Some, None, sym, ap, ◌∙◌, eqb-true}
use Rattle.std.specs.Prelude.{◌==◌}
use Rattle.std.specs.FinMap as map
use Rattle.tree_nodes.specs.declared.node.Node.{Node}
use Rattle.tree_nodes.specs.Tree.{Names, Tree, entry_of}
use Rattle.tree_nodes.proofs.Found.{found_stands, found_passes}
use Rattle.tree_nodes.proofs.Chains.{same_some, value_of, empty_or}
use Rattle.tree_nodes.proofs.Soundness.{ahead_same}
use Rattle.tree_starts.specs.declared.object.StartObject.{StartObject}
use Rattle.file_tree.specs.StartTree.{directory_node}
use Rattle.file_tree.specs.Built.{Comes, Covered, IsFree}

pub no_path : (directory : Names) (name : List ℕ) → directory ++ name ∷ [] ≡ [] → ⊥
no_path [] name e = absurd (cc)
no_path (x ∷ directory) name e = absurd (cc)

pub stands : (tree : Tree) (k : ℕ) (e : Names × Node) → entry_of tree k ≡ Some e → map.get tree e.0 ≡ Some e.1
stands tree k e is = found_stands tree (λ x. x.1.object == k) e is

pub numbered : (tree : Tree) (k : ℕ) (e : Names × Node) → entry_of tree k ≡ Some e → e.1.object ≡ k
numbered tree k e is = eqb-true e.1.object k (found_passes tree (λ x. x.1.object == k) e is)

last_same : (p q : Names) (m n : List ℕ) → p ++ m ∷ [] ≡ q ++ n ∷ [] → m ≡ n
last_same [] [] m n e = cc
last_same [] (y ∷ []) m n e = absurd (cc)
last_same [] (y ∷ z ∷ q) m n e = absurd (cc)
last_same (x ∷ []) [] m n e = absurd (cc)
last_same (x ∷ y ∷ p) [] m n e = absurd (cc)
last_same (x ∷ p) (y ∷ q) m n e = last_same p q m n (cc)

same_entry : (tree : Tree) (j k : ℕ) (e f : Names × Node) → entry_of tree j ≡ Some e → entry_of tree k ≡ Some f → e.0 ≡ f.0 → j ≡ k
same_entry tree j k e f at_j at_k same =
    sym (numbered tree j e at_j)
    ∙ ap (λ (n : Node). n.object) (same_some e.1 f.1 (sym (stands tree j e at_j) ∙ ap (map.get tree) same ∙ stands tree k f at_k))
    ∙ numbered tree k f at_k

pub name_is_free : (tree : Tree) (objects : List StartObject) (parent : ℕ) (name : List ℕ) (e : Names × Node) → Covered tree objects → entry_of tree parent ≡ Some e
    → IsFree objects parent name → map.get tree (e.0 ++ name ∷ []) ≡ None
name_is_free tree objects parent name e covered above free = empty_or _ (λ there. go (value_of _ there)) where
  path : {A : Type 0} {a b : A} → Some a ≡ Some b → a ≡ b
  path f = cc

  clash : (x : Node) → Comes tree objects (e.0 ++ name ∷ []) x → ⊥
  clash x c =
      let same = ap (λ (y : Names × Node). y.0) (path (sym c.sits.here ∙ c.at)) in
      free c.o c.listed (same_entry tree c.o.parent parent (c.sits.path, directory_node c.o.parent) e c.sits.above above (ahead_same c.sits.path e.0 c.o.name name same)) (last_same c.sits.path e.0 c.o.name name same)

  go : (x : Node) × (map.get tree (e.0 ++ name ∷ []) ≡ Some x) → ⊥
  go found = case (covered (e.0 ++ name ∷ []) found.0 found.1) where
    case : (e.0 ++ name ∷ [] ≡ []) ⊎ Comes tree objects (e.0 ++ name ∷ []) found.0 → ⊥
    case (inl root) = no_path e.0 name root
    case (inr c) = clash found.0 c
