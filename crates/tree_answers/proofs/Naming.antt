-- the causes of a RENAME, where its entries are known
use Rattle.std.proofs.Common.{◌≡◌, ℕ, false, List, [], ◌∷◌, ◌++◌, Option, Some, ap, ◌∙◌}
use Rattle.std.specs.Prelude.{not, ◌&&◌, option_map}
use Rattle.std.specs.Option.{option_map_or}
use Rattle.tree_handles.specs.tree_nodes_specs.declared.node.Node.{Node}
use Rattle.tree_handles.specs.tree_nodes_specs.Tree.{Names, Tree, same_path, is_below}
use Rattle.tree_handles.specs.Kind.{is_directory}
use Rattle.tree_answers.specs.Causes.{is_filled_directory}

pub filled_target : (tree : Tree) (source target : Option (Names × Node)) (s t : Names × Node) → source ≡ Some s → target ≡ Some t
    → option_map_or (λ s. option_map_or (λ t. not (same_path s.0 t.0) && is_filled_directory tree t) target false) source false
    ≡ (not (same_path s.0 t.0) && is_filled_directory tree t)
filled_target tree source target s t is_s is_t =
    ap (λ o. option_map_or (λ s. option_map_or (λ t. not (same_path s.0 t.0) && is_filled_directory tree t) target false) o false) is_s
    ∙ ap (λ o. option_map_or (λ t. not (same_path s.0 t.0) && is_filled_directory tree t) o false) is_t

pub below_source : (source : Option (Names × Node)) (directory : Option Names) (name : List ℕ) (s : Names × Node) (d : Names) → source ≡ Some s → directory ≡ Some d
    → option_map_or (λ s. is_directory s.1.content && option_map_or (λ q. is_below q s.0) (option_map (λ d. d ++ name ∷ []) directory) false) source false
    ≡ (is_directory s.1.content && is_below (d ++ name ∷ []) s.0)
below_source source directory name s d is_s is_d =
    ap (λ o. option_map_or (λ s. is_directory s.1.content && option_map_or (λ q. is_below q s.0) (option_map (λ d. d ++ name ∷ []) directory) false) o false) is_s
    ∙ ap (λ o. is_directory s.1.content && option_map_or (λ q. is_below q s.0) (option_map (λ d. d ++ name ∷ []) o) false) is_d
