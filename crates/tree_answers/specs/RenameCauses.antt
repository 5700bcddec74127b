-- Believed.
-- why a RENAME may fail in a tree: RFC 1813, section 3.3.14
use Rattle.std.specs.Prelude.{Bool, false, not, ◌&&◌, [], ◌∷◌, ◌++◌, Option, None, option_map, option_and_then}
use Rattle.std.specs.Option.{option_map_or}
use Rattle.nfs3_types.specs.declared.calls.NfsCall.{NfsCall}
use Rattle.nfs3_types.specs.declared.calls.NfsCall.TheVariants as calls
use Rattle.tree_handles.specs.tree_nodes_specs.declared.node.Node.{Node}
use Rattle.tree_handles.specs.tree_nodes_specs.Tree.{Names, Tree, same_path, is_below}
use Rattle.tree_handles.specs.Binding.{Bindings}
use Rattle.tree_handles.specs.Live.{directory_of}
use Rattle.tree_handles.specs.Entry.{named}
use Rattle.tree_handles.specs.Kind.{is_directory}
use Rattle.tree_answers.specs.Asked.{second_place}
use Rattle.tree_answers.specs.Causes.{is_filled_directory}

-- the source of a RENAME, and the entry that stands at its target
abbrev pub source_of : Bindings → Tree → NfsCall → Option (Names × Node)
source_of binds tree (calls.Rename call) = named binds tree call.from
source_of binds tree _ = None

abbrev pub target_of : Bindings → Tree → NfsCall → Option (Names × Node)
target_of binds tree (calls.Rename call) = named binds tree call.to
target_of binds tree _ = None

-- RENAME of a directory onto an entry that is no directory
abbrev pub rename_onto_no_directory : Bindings → Tree → NfsCall → Bool
rename_onto_no_directory binds tree call =
    option_map_or (λ s. is_directory s.1.content) (source_of binds tree call) false && option_map_or (λ t. not (is_directory t.1.content)) (target_of binds tree call) false

-- RENAME of what is no directory onto a directory
abbrev pub rename_onto_directory : Bindings → Tree → NfsCall → Bool
rename_onto_directory binds tree call =
    option_map_or (λ s. not (is_directory s.1.content)) (source_of binds tree call) false && option_map_or (λ t. is_directory t.1.content) (target_of binds tree call) false

-- RENAME of an entry onto another one, a directory that isn't empty
abbrev pub rename_onto_filled_directory : Bindings → Tree → NfsCall → Bool
rename_onto_filled_directory binds tree call =
    option_map_or (λ s. option_map_or (λ t. not (same_path s.0 t.0) && is_filled_directory tree t) (target_of binds tree call) false) (source_of binds tree call) false

-- RENAME of a directory to a path below itself
abbrev pub target_path : Bindings → Tree → NfsCall → Option Names
target_path binds tree call = option_and_then (λ place. option_map (λ directory. directory ++ place.name ∷ []) (directory_of binds tree place.directory)) (second_place call)

abbrev pub rename_below_itself : Bindings → Tree → NfsCall → Bool
rename_below_itself binds tree call =
    option_map_or (λ s. is_directory s.1.content && option_map_or (λ q. is_below q s.0) (target_path binds tree call) false) (source_of binds tree call) false
