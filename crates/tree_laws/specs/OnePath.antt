-- For the prover, and for callers.
-- the one path that a call may change: RFC 1813, section 3.3, by procedure
use Rattle.std.specs.Prelude.{◌≡◌, ◌≢◌, ℕ, Bool, true, false, List, [], ◌∷◌, ◌++◌, Option, Some, None, option_map}
use Rattle.std.specs.FinMap as map
use Rattle.nfs3_types.specs.declared.calls.DirectoryName.{DirectoryName}
use Rattle.nfs3_types.specs.declared.calls.NfsCall.{NfsCall}
use Rattle.nfs3_types.specs.declared.calls.NfsCall.TheVariants as calls
use Rattle.nfs3_types.specs.declared.replies.Outcome.{Outcome}
use Rattle.tree_nodes.specs.Tree.{Names, Tree}
use Rattle.tree_handles.specs.Binding.{Bindings}
use Rattle.tree_handles.specs.Live.{directory_of, file_of}
use Rattle.file_tree.specs.Success.{next_tree}

-- the path of a name in the directory that a live handle names
abbrev pub path_of : Bindings → Tree → DirectoryName → Option Names
path_of binds tree place = option_map (λ directory. directory ++ place.name ∷ []) (directory_of binds tree place.directory)

-- the path of the file that a live handle names
abbrev pub file_path : Bindings → Tree → List ℕ → Option Names
file_path binds tree handle = option_map (λ entry. entry.path) (file_of binds tree handle)

-- the path that a call is to change: of the file whose bytes it sets, or of the name that it makes or takes away
abbrev pub path_asked : Bindings → Tree → NfsCall → Option Names
path_asked binds tree (calls.SetAttr call) = file_path binds tree call.object
path_asked binds tree (calls.Write call) = file_path binds tree call.file
path_asked binds tree (calls.Create call) = path_of binds tree call.place
path_asked binds tree (calls.MkDir call) = path_of binds tree call.place
path_asked binds tree (calls.SymLink call) = path_of binds tree call.place
path_asked binds tree (calls.Remove place) = path_of binds tree place
path_asked binds tree (calls.RmDir place) = path_of binds tree place
path_asked binds tree _ = None

abbrev pub is_rename : NfsCall → Bool
is_rename (calls.Rename _) = true
is_rename _ = false

-- each path that the call isn't to change has the node that it had
abbrev pub OthersStay : Type 0
OthersStay =
    (binds : Bindings) (before after : Tree) (number : ℕ) (call : NfsCall) (outcome : Outcome) (other : Names) → is_rename call ≡ false
    → next_tree binds before number call outcome ≡ Some after → path_asked binds before call ≢ Some other → map.get after other ≡ map.get before other
