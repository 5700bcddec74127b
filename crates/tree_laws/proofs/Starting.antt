-- the tree of what a server held at first
use Rattle.std.proofs.Common.{◌≡◌, ◌<◌, ◌+◌, ◌⊎◌, inl, inr, ℕ, zero, suc, List, [], ◌∷◌, ◌++◌, length, get_or, Some, None, sym, ap, ◌∙◌, subst, arith}
use Rattle.std.specs.Prelude.{slice_get}
use Rattle.std.specs.FinMap as map
use Rattle.tree_starts.specs.declared.object.StartObject.{StartObject}
use Rattle.tree_nodes.specs.declared.node.Node.{Node}
use Rattle.tree_nodes.specs.Tree.{Names, Tree, entry_of}
use Rattle.tree_nodes.proofs.Chains.{same_some, value_of, empty_or}
use Rattle.tree_nodes.proofs.Soundness.{ahead_same}
use Rattle.file_tree.specs.StartTree.{start_node, directory_node, start_tree, Sits}
use Rattle.file_tree.specs.Built.{Comes, Built}
use Rattle.file_tree.proofs.StartNames.{no_path, stands, numbered}
use Rattle.file_tree.proofs.StartTrees.{built_start}
use Rattle.tree_laws.specs.Starting.{StartIsFormed, EachStands, IsOneOf, NothingElseStands, NoneFurther}
use Rattle.tree_laws.specs.WellFormed.{IsDirectoryAt, IsWellFormed}

pub each_stands : EachStands
each_stands start k o is listed = (built_start start is).each k o listed

module _ (tree : Tree) (objects : List StartObject) (n : ℕ) (built : Built tree objects n) where
  -- where one of the objects stands
  place : (p : Names) (x : Node) (c : Comes tree objects p x) → c.sits.path ++ c.o.name ∷ [] ≡ p
  place p x c = ap (λ (e : Names × Node). e.0) (same_some _ _ (sym c.sits.here ∙ c.at))

  lies_in : (path : Names) (name : List ℕ) (x : Node) → (path ++ name ∷ [] ≡ []) ⊎ Comes tree objects (path ++ name ∷ []) x → IsDirectoryAt tree path
  lies_in path name x (inl root) = absurd (no_path path name root)
  lies_in path name x (inr c) =
      let same : c.sits.path ≡ path = ahead_same c.sits.path path c.o.name name (place (path ++ name ∷ []) x c) in
      record { object = c.o.parent; stands = subst (λ p. map.get tree p ≡ Some (directory_node c.o.parent)) same (stands tree c.o.parent _ c.sits.above) }

  pub formed_built : IsWellFormed tree
  formed_built = record {
    root = stands tree 0 _ built.root;
    parents = λ path name there. let x = value_of _ there in lies_in path name x.0 (built.covered (path ++ name ∷ []) x.0 x.1);
    objects = built.once;
  }

  at_listed : (xs : List StartObject) (i : ℕ) (o : StartObject) → i < length xs → get_or xs i o ≡ o → slice_get xs i ≡ Some o
  at_listed [] i o lt at = absurd (omega (arith, lt))
  at_listed (x ∷ xs) zero o lt at = ap Some at
  at_listed (x ∷ xs) (suc i) o lt at = at_listed xs i o (omega (arith, lt)) at

  -- two nodes of one place
  one_of : (p : Names) (x : Node) → Comes tree objects p x → IsOneOf objects x
  one_of p x c =
      let i = c.listed.0 in
      let there = at_listed objects i c.o c.listed.1 c.listed.2 in
      let sits : Sits tree (i + 1) c.o = built.each i c.o there in
      let same : sits.path ≡ c.sits.path = ap (λ (e : Names × Node). e.0) (same_some _ _ (sym sits.above ∙ c.sits.above)) in
      let own = stands tree (i + 1) _ sits.here in
      let at : sits.path ++ c.o.name ∷ [] ≡ p = ap (λ (q : Names). q ++ c.o.name ∷ []) same ∙ place p x c in
      let node = same_some x (start_node (i + 1) c.o) (sym (stands tree x.object _ c.at) ∙ ap (map.get tree) (sym at) ∙ own) in
      record { k = i; o = c.o; listed = there; is = node }

  none_from : (object : ℕ) → n < object → entry_of tree object ≡ None
  none_from object past = empty_or _ (λ there. go (value_of _ there)) where
    go : (e : Names × Node) × (entry_of tree object ≡ Some e) → ⊥
    go found = omega (arith, past, built.few found.0.0 found.0.1 (stands tree object found.0 found.1), numbered tree object found.0 found.1)

pub start_formed : StartIsFormed
start_formed start is = formed_built (start_tree start) start (length start) (built_start start is)

pub nothing_else : NothingElseStands
nothing_else start path node is there = go ((built_start start is).covered path node there) where
  go : (path ≡ []) ⊎ Comes (start_tree start) start path node → (path ≡ []) ⊎ IsOneOf start node
  go (inl root) = inl root
  go (inr c) = inr (one_of (start_tree start) start (length start) (built_start start is) path node c)

pub none_further : NoneFurther
none_further start object is past = none_from (start_tree start) start (length start) (built_start start is) object past
