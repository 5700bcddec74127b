-- what a directory's object and names say of its path
use Rattle.std.proofs.Common.{◌≡◌, ℕ, Bool, true, cond, List, [], ◌∷◌, Option, Some, None, refl, sym, ap, ◌∙◌}
use Rattle.std.specs.Prelude.{◌||◌, ◌&&◌, ◌==◌, not, length, slice_index_or, option_and_then, option_map}
use Rattle.std.specs.List.{list_all}
use Rattle.std.specs.FinMap as map
use Rattle.std.specs.BTreeSet.{BTreeSet}
use Rattle.tree_handles.specs.tree_nodes_specs.declared.node.Node.{Node}
use Rattle.tree_handles.specs.tree_nodes_specs.Tree.{Names, Tree, entry_of, is_in, parent}
use Rattle.tree_handles.specs.tree_nodes_specs.Place.{path_of, are_among}
use Rattle.tree_handles.proofs.tree_nodes_laws.Found.{found_stands}
use Rattle.tree_starts.specs.Names.{is_dot, is_two_dots}
use Rattle.tree_handles.specs.Entry.{entry_at}
use Rattle.tree_answers.specs.Look.{object_at, object_named}
use Rattle.tree_answers.specs.Listing.{are_all_listed}
use Rattle.tree_answers.specs.Held.{HasNames}

-- `.` leads to the directory itself
pub itself : (tree : Tree) (directory : ℕ) (name : List ℕ) → is_dot name ≡ true
    → object_at (option_map (λ e. e.1) (entry_of tree directory)) ≡ option_and_then (λ path. object_named tree path name) (path_of tree directory)
itself tree directory name dot = go (entry_of tree directory) refl where
  go : (o : Option (Names × Node)) → entry_of tree directory ≡ o
      → object_at (option_map (λ e. e.1) o) ≡ option_and_then (λ path. object_named tree path name) (option_map (λ e. e.0) o)
  go None h = refl
  go (Some e) h =
      sym (ap object_at (found_stands tree (λ x. x.1.object == directory) e h))
      ∙ sym (ap (λ b. cond b (object_at (map.get tree e.0)) (cond (is_two_dots name) (object_at (map.get tree (parent e.0))) (object_at (entry_at tree e.0 name)))) dot)

all_alike : {A : Type 0} (f g : A → Bool) → ((x : A) → f x ≡ g x) → (xs : List A) → list_all f xs ≡ list_all g xs
all_alike f g same [] = refl
all_alike f g same (x ∷ xs) = ap (λ b. b && list_all f xs) (same x) ∙ ap (λ b. g x && b) (all_alike f g same xs)

pub whole : (tree : Tree) (path : Names) (set : BTreeSet (List ℕ)) (names : List (List ℕ)) → HasNames set names → are_among set tree path ≡ are_all_listed tree path names
whole tree path set names has =
    all_alike _ _ (λ e. ap (λ b. not (is_in e.0 path) || b) (has (slice_index_or e.0 (length path) []))) (map.entries tree)
