-- what every tree of a table keeps, as its calls need it
use Rattle.std.proofs.Common.{◌≡◌, ℕ, true, [], ◌∷◌, ◌++◌, Some, None, sym, ◌∙◌, subst, append_assoc, append-nil}
use Rattle.std.specs.Prelude.{IsSome, ◌==◌}
use Rattle.std.specs.FinMap as map
use Rattle.std.proofs.lemmas.Bool.{eqb-true}
use Rattle.tree_nodes.specs.declared.node.Node.{Node}
use Rattle.tree_nodes.specs.Tree.{Names, Tree, entry_of, is_bare}
use Rattle.tree_nodes.specs.Sound.{IsSound}
use Rattle.tree_nodes.specs.Numbered.{IsNumbered}
use Rattle.tree_nodes.proofs.Chains.{value_of, absent, empty_or}
use Rattle.tree_nodes.proofs.Found.{found_stands, found_passes, bare_of_nothing}

-- an object that lies below the root isn't object 0
pub isnt_zero : (t : Tree) → IsNumbered t → (object : ℕ) → IsSome (entry_of t object) → ((e : Names × Node) → entry_of t object ≡ Some e → e.0 ≡ [] → ⊥) → object ≡ 0 → ⊥
isnt_zero t numbered object stands below zero =
    let e = value_of _ stands in
    let number = eqb-true e.0.1.object object (found_passes t (λ x. x.1.object == object) e.0 e.1) in
    below e.0 e.1 (numbered.once e.0.0 [] e.0.1 numbered.root.0 (found_stands t (λ x. x.1.object == object) e.0 e.1) numbered.root.1 (number ∙ zero ∙ sym numbered.root.2))

front_stands : (t : Tree) → IsSound t → (p r : Names) → IsSome (map.get t (p ++ r)) → IsSome (map.get t p)
front_stands t sound p [] some = subst (λ q. IsSome (map.get t q)) (append-nil p) some
front_stands t sound p (x ∷ r) some =
    sound.fronts p x (front_stands t sound (p ++ x ∷ []) r (subst (λ q. IsSome (map.get t q)) (sym (append_assoc p (x ∷ []) r)) some))

-- nothing lies below a path at which nothing stands
pub bare_absent : (t : Tree) → IsSound t → (q : Names) → map.get t q ≡ None → is_bare t q ≡ true
bare_absent t sound q none = bare_of_nothing t q (λ n r. empty_or (map.get t (q ++ n ∷ r)) (λ some. absent (map.get t q) none (front_stands t sound q (n ∷ r) some)))
