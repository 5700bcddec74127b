-- Believed.
-- what a success of REMOVE, RMDIR and RENAME makes of the tree: RFC 1813, sections 3.3.12 to 3.3.14
use Rattle.std.specs.Prelude.{Bool, true, not, ◌&&◌, if◌then◌else◌, [], ◌∷◌, ◌++◌, Option, Some, None, option_and_then}
use Rattle.std.specs.FinMap as map
use Rattle.nfs3_types.specs.declared.calls.DirectoryName.{DirectoryName}
use Rattle.nfs3_types.specs.declared.calls.RenameArguments.{RenameArguments}
use Rattle.file_tree.specs.Change.{Change}
use Rattle.file_tree.specs.Change.Change.{Keep, Remove, Move}
use Rattle.tree_nodes.specs.declared.node.Node.{Node}
use Rattle.tree_nodes.specs.declared.node.Content.{Content}
use Rattle.tree_nodes.specs.Tree.{Names, Tree, same_path, is_bare}
use Rattle.tree_nodes.specs.Moved.{is_from}
use Rattle.tree_answers.specs.tree_handles_specs.Binding.{Bindings}
use Rattle.tree_answers.specs.tree_handles_specs.Live.{directory_of}
use Rattle.tree_starts.specs.Names.{is_plain}
use Rattle.tree_answers.specs.tree_handles_specs.Entry.{named}
use Rattle.tree_answers.specs.tree_handles_specs.Kind.{is_directory}
use Rattle.tree_answers.specs.Look.{same_flag}
use Rattle.file_tree.specs.Made.{only_if}

-- REMOVE, RFC 1813, section 3.3.12: an entry that is no directory goes (below one nothing lies)
abbrev pub remove_entry : Bindings → Tree → DirectoryName → Option Change
remove_entry binds tree place = option_and_then (λ e. only_if (not (is_directory e.1.content) && is_bare tree e.0) (Remove e.0)) (named binds tree place)

-- RMDIR, RFC 1813, section 3.3.13: a directory goes with nothing below it
abbrev pub remove_directory : Bindings → Tree → DirectoryName → Option Change
remove_directory binds tree place = option_and_then (λ e. only_if (is_directory e.1.content && is_bare tree e.0) (Remove e.0)) (named binds tree place)

-- RENAME, RFC 1813, section 3.3.14: the entry of a plain name goes to a plain name, with all that lies below it. Onto itself
-- it stays; else the target isn't below it, and what stands there, which goes, is a directory where the source is one, and
-- has nothing below it
abbrev pub may_replace : Content → Option Node → Bool
may_replace content None = true
may_replace content (Some node) = same_flag (is_directory content) (is_directory node.content)

abbrev pub rename_at : Tree → Names → Content → Names → Option Change
rename_at tree p content q =
    if same_path p q then Some Keep else only_if (not (is_from q p) && may_replace content (map.get tree q) && is_bare tree q) (Move p q)

abbrev pub rename : Bindings → Tree → RenameArguments → Option Change
rename binds tree call =
    option_and_then (λ source. option_and_then (λ directory. if is_plain call.to.name then rename_at tree source.0 source.1.content (directory ++ call.to.name ∷ []) else None)
    (directory_of binds tree call.to.directory)) (named binds tree call.from)
