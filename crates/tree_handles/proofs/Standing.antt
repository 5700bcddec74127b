-- objects that handles and names lead to, by their numbers
use Rattle.std.proofs.Common.{◌≡◌, ℕ, true, false, cond, List, [], ◌∷◌, ◌++◌, Option, Some, None, refl, sym, ap, ◌∙◌}
use Rattle.std.specs.Prelude.{IsSome, ◌==◌, is_some, option_and_then, option_map, unwrap_or}
use Rattle.std.proofs.lemmas.Bool.{eqb-true}
use Rattle.tree_nodes.specs.declared.node.Node.{Node}
use Rattle.tree_nodes.specs.Tree.{Names, Tree, entry_of}
use Rattle.tree_nodes.specs.Place.{path_of}
use Rattle.tree_nodes.proofs.Found.{found_passes}
use Rattle.tree_handles.specs.Standing.{place_of}
use Rattle.std.specs.FinMap as map
use Rattle.tree_starts.specs.Names.{is_plain}
use Rattle.tree_handles.specs.Entry.{entry_at}

-- a node that is found has the number that was looked for
pub own_number : (tree : Tree) (object : ℕ) (e : Names × Node) → entry_of tree object ≡ Some e → e.1.object ≡ object
own_number tree object e h = eqb-true e.1.object object (found_passes tree (λ x. x.1.object == object) e h)

-- so its entry is found again
pub found_again : (tree : Tree) (object : ℕ) (found : Option Node) → found ≡ option_map (λ e. e.1) (entry_of tree object)
    → option_and_then {T = Node} {U = Names × Node} (λ n. entry_of tree n.object) found ≡ entry_of tree object
found_again tree object found is = ap (option_and_then (λ n. entry_of tree n.object)) is ∙ go (entry_of tree object) refl where
  go : (e : Option (Names × Node)) → entry_of tree object ≡ e → option_and_then {T = Node} {U = Names × Node} (λ n. entry_of tree n.object) (option_map (λ e. e.1) e) ≡ e
  go None h = refl
  go (Some e) h = ap (entry_of tree) (own_number tree object e h) ∙ h

-- an object that has a path stands there
pub stands_at : (tree : Tree) (object : ℕ) → IsSome (path_of tree object) → (e : Names × Node) × (entry_of tree object ≡ Some e) × (place_of tree object ≡ e.0)
stands_at tree object some = go (entry_of tree object) refl some where
  go : (o : Option (Names × Node)) → entry_of tree object ≡ o → IsSome (option_map (λ e. e.0) o) → (e : Names × Node) × (entry_of tree object ≡ Some e) × (place_of tree object ≡ e.0)
  go None h some = absurd (cc)
  go (Some e) h some = (e, h, ap (λ o. unwrap_or (option_map (λ x. x.0) o) []) h)

-- so does one that a handle leads to
pub led_to : (tree : Tree) (object : ℕ) (path : Option Names) → path_of tree object ≡ path → is_some path ≡ true → (e : Names × Node) × (entry_of tree object ≡ Some e) × (path ≡ Some e.0)
led_to tree object path is some = go (entry_of tree object) refl where
  go : (o : Option (Names × Node)) → entry_of tree object ≡ o → (e : Names × Node) × (entry_of tree object ≡ Some e) × (path ≡ Some e.0)
  go None h = absurd (cc)
  go (Some e) h = (e, h, sym is ∙ ap (option_map (λ x. x.0)) h)

-- the entry of a plain name, by the directory's entry and by its path
pub by_path : (tree : Tree) (directory : ℕ) (name : List ℕ) → is_plain name ≡ true
    → option_and_then {T = Names × Node} {U = Names × Node} (λ e. option_map (λ n. (e.0 ++ name ∷ [], n)) (map.get tree (e.0 ++ name ∷ []))) (entry_of tree directory)
    ≡ option_and_then (λ path. option_map {U = Names × Node} (λ n. (path ++ name ∷ [], n)) (entry_at tree path name)) (path_of tree directory)
by_path tree directory name plain = go (entry_of tree directory) where
  go : (o : Option (Names × Node)) → option_and_then {T = Names × Node} {U = Names × Node} (λ e. option_map (λ n. (e.0 ++ name ∷ [], n)) (map.get tree (e.0 ++ name ∷ []))) o
      ≡ option_and_then (λ path. option_map {U = Names × Node} (λ n. (path ++ name ∷ [], n)) (entry_at tree path name)) (option_map (λ e. e.0) o)
  go None = refl
  go (Some e) = ap (λ b. option_map {U = Names × Node} (λ n. (e.0 ++ name ∷ [], n)) (cond b (map.get tree (e.0 ++ name ∷ [])) None)) (sym plain)

-- no entry has a name that isn't plain
pub no_entry : (tree : Tree) (directory : ℕ) (name : List ℕ) → is_plain name ≡ false
    → option_and_then (λ path. option_map {U = Names × Node} (λ n. (path ++ name ∷ [], n)) (entry_at tree path name)) (path_of tree directory) ≡ None
no_entry tree directory name isnt = go (path_of tree directory) where
  go : (o : Option Names) → option_and_then (λ path. option_map {U = Names × Node} (λ n. (path ++ name ∷ [], n)) (entry_at tree path name)) o ≡ None
  go None = refl
  go (Some path) = ap (λ b. option_map {U = Names × Node} (λ n. (path ++ name ∷ [], n)) (cond b (map.get tree (path ++ name ∷ [])) None)) isnt
