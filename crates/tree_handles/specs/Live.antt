-- Believed.
-- handles in a tree: RFC 1813, `nfs_fh3` and NFS3ERR_STALE
use Rattle.std.specs.Prelude.{ℕ, List, Option, Some, None, IsSome, option_and_then}
use Rattle.tree_nodes.specs.declared.node.Node.{Node}
use Rattle.tree_nodes.specs.declared.node.Content.{Content}
use Rattle.tree_nodes.specs.declared.node.Content.TheVariants as contents
use Rattle.tree_nodes.specs.declared.node.File.{File}
use Rattle.tree_nodes.specs.Tree.{Names, Tree, entry_of}
use Rattle.tree_handles.specs.Binding.{Bindings, object_of}

-- where the object that a handle names stands, and its node
abbrev pub live_entry : Bindings → Tree → List ℕ → Option (Names × Node)
live_entry binds tree handle = option_and_then (entry_of tree) (object_of binds handle)

-- a handle is live where it names an object that stands at some path
abbrev pub IsLive : Bindings → Tree → List ℕ → Type 0
IsLive binds tree handle = IsSome (live_entry binds tree handle)

-- the path of an entry that is a directory
abbrev pub as_directory : Names → Content → Option Names
as_directory path contents.Directory = Some path
as_directory path (contents.File _) = None
as_directory path (contents.Link _) = None

-- the path of the directory that a live handle names
abbrev pub directory_of : Bindings → Tree → List ℕ → Option Names
directory_of binds tree handle = option_and_then (λ e. as_directory e.0 e.1.content) (live_entry binds tree handle)

-- where a file stands, with its object
pub record FileEntry : Type 0 where
  pub path : Names
  pub object : ℕ
  pub file : File

-- an entry that is a file
abbrev pub as_file : Names → ℕ → Content → Option FileEntry
as_file path object contents.Directory = None
as_file path object (contents.File file) = Some (record { path = path; object = object; file = file })
as_file path object (contents.Link _) = None

-- the file that a live handle names
abbrev pub file_of : Bindings → Tree → List ℕ → Option FileEntry
file_of binds tree handle = option_and_then (λ e. as_file e.0 e.1.object e.1.content) (live_entry binds tree handle)
