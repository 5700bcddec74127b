-- what is told of an object after a RENAME
use Rattle.std.proofs.Common.{◌≡◌, ℕ, ◌⊎◌, inl, inr, List, [], ◌∷◌, ◌++◌, Option, Some, None, refl, sym, ap, ◌∙◌, eq-eqb, append-nil}
use Rattle.std.specs.Prelude.{◌==◌, option_map}
use Rattle.std.specs.FinMap as map
use Rattle.tree_nodes.specs.declared.node.Node.{Node}
use Rattle.tree_nodes.specs.Tree.{Names, Tree, entry_of}
use Rattle.tree_nodes.specs.Moves.{IsOutside, Moves}
use Rattle.tree_nodes.proofs.Found.{some_found}
use Rattle.tree_nodes.proofs.Chains.{same_some, value_of, empty_or, absent}
use Rattle.tree_nodes.proofs.Beside.{from_or_outside}
use Rattle.file_tree.specs.Strict.{told, told_of}
use Rattle.file_tree.proofs.AfterPut.{Once, clash, stands, numbered}

module _ (tree after : Tree) (once : Once tree) (p q : Names) (apart : IsOutside p q) (bare : (n : List ℕ) (r : Names) → map.get tree (q ++ n ∷ r) ≡ None)
    (moves : Moves p q (map.get tree) (map.get after)) where
  abbrev Came : Node → Type 0
  Came x = (h : Names) × (map.get tree h ≡ Some x) × (h ≡ q → ⊥)

  came : (path : Names) (x : Node) → map.get after path ≡ Some x → Came x
  came path x there = go (from_or_outside path q) (from_or_outside path p) where
    go : ((r : Names) × (path ≡ q ++ r)) ⊎ IsOutside q path → ((r : Names) × (path ≡ p ++ r)) ⊎ IsOutside p path → Came x
    go (inl to) from = (p ++ to.0, sym (moves.along to.0) ∙ ap (map.get after) (sym to.1) ∙ there, λ e. apart to.0 (sym e))
    go (inr off) (inl from) = absurd (clash (ap (map.get after) from.1 ∙ moves.gone from.0) there)
    go (inr off) (inr outside) = (path, sym (moves.others path outside off) ∙ there, λ e. off [] (e ∙ sym (append-nil q)))

  went : (h : Names) (x : Node) → map.get tree h ≡ Some x → (h ≡ q → ⊥) → (path : Names) × (map.get after path ≡ Some x)
  went h x there other = go (from_or_outside h p) where
    off : IsOutside q h
    off [] e = other (e ∙ append-nil q)
    off (n ∷ r) e = clash (ap (map.get tree) e ∙ bare n r) there

    go : ((r : Names) × (h ≡ p ++ r)) ⊎ IsOutside p h → (path : Names) × (map.get after path ≡ Some x)
    go (inl from) = (q ++ from.0, moves.along from.0 ∙ sym (ap (map.get tree) from.1) ∙ there)
    go (inr outside) = (h, moves.others h outside off ∙ there)

  module _ (k : ℕ) where
    was : (g : Names × Node) → entry_of after k ≡ Some g → Came g.1
    was g found = came g.0 g.1 (stands after k g found)

    -- one that isn't displaced stands as it was
    same : (f : Names × Node) → entry_of tree k ≡ Some f → (f.0 ≡ q → ⊥) → told_of after k ≡ Some (told f.1.content)
    same f is other =
        let now = went f.0 f.1 (stands tree k f is) other in
        let found = value_of _ (some_found after (λ e. e.1.object == k) now.0 f.1 now.1 (eq-eqb f.1.object k (numbered tree k f is))) in
        let from = was found.0 found.1 in
        let path : from.0 ≡ f.0 = once from.0 f.0 found.0.1 f.1 from.1 (stands tree k f is) (numbered after k found.0 found.1 ∙ sym (numbered tree k f is)) in
        let node : found.0.1 ≡ f.1 = same_some found.0.1 f.1 (sym from.1 ∙ ap (map.get tree) path ∙ stands tree k f is) in
        ap (option_map (λ (e : Names × Node). told e.1.content)) found.1 ∙ ap (λ (n : Node). Some (told n.content)) node

    -- one that is displaced stands nowhere
    gone : (f : Names × Node) → entry_of tree k ≡ Some f → f.0 ≡ q → entry_of after k ≡ None
    gone f is at = empty_or _ (λ there. go (value_of _ there)) where
      go : (g : Names × Node) × (entry_of after k ≡ Some g) → ⊥
      go found =
          let from = was found.0 found.1 in
          from.2 (once from.0 f.0 found.0.1 f.1 from.1 (stands tree k f is) (numbered after k found.0 found.1 ∙ sym (numbered tree k f is)) ∙ at)

    -- and none comes from nowhere
    none : entry_of tree k ≡ None → entry_of after k ≡ None
    none nowhere = empty_or _ (λ there. go (value_of _ there)) where
      go : (g : Names × Node) × (entry_of after k ≡ Some g) → ⊥
      go found =
          let from = was found.0 found.1 in
          absent _ nowhere (some_found tree (λ e. e.1.object == k) from.0 found.0.1 from.1 (eq-eqb found.0.1.object k (numbered after k found.0 found.1)))

    pub told_displaced : (x : Node) → map.get tree q ≡ Some x → x.object ≡ k → told_of after k ≡ None
    told_displaced x there is = go (value_of _ (some_found tree (λ e. e.1.object == k) q x there (eq-eqb x.object k is))) where
      go : (f : Names × Node) × (entry_of tree k ≡ Some f) → told_of after k ≡ None
      go found =
          let f = found.0 in
          let at : f.0 ≡ q = once f.0 q f.1 x (stands tree k f found.1) there (numbered tree k f found.1 ∙ sym is) in
          ap (option_map (λ (e : Names × Node). told e.1.content)) (gone f found.1 at)

    pub told_still : ((x : Node) → map.get tree q ≡ Some x → x.object ≡ k → ⊥) → told_of after k ≡ told_of tree k
    told_still other = go (entry_of tree k) refl where
      go : (o : Option (Names × Node)) → entry_of tree k ≡ o → told_of after k ≡ option_map (λ e. told e.1.content) o
      go None is = ap (option_map (λ (e : Names × Node). told e.1.content)) (none is)
      go (Some f) is = same f is (λ at. other f.1 (sym (ap (map.get tree) at) ∙ stands tree k f is) (numbered tree k f is))
