-- Believed.
-- what a success of CREATE, MKDIR and SYMLINK makes of the tree: RFC 1813, sections 3.3.8 to 3.3.10
use Rattle.std.specs.Prelude.{ℕ, ◌==◌, nat_le, nat_lt, Bool, false, ◌&&◌, if◌then◌else◌, List, [], ◌∷◌, ◌++◌, replicate, Option, Some, None, is_none, unwrap_or, option_and_then}
use Rattle.std.specs.FinMap as map
use Rattle.nfs3_types.specs.declared.attributes.Verifier.{Verifier}
use Rattle.nfs3_types.specs.declared.calls.CreateMode.{CreateMode}
use Rattle.nfs3_types.specs.declared.calls.CreateMode.TheVariants.{Unchecked, Guarded, Exclusive}
use Rattle.nfs3_types.specs.declared.calls.CreateArguments.{CreateArguments}
use Rattle.nfs3_types.specs.declared.calls.DirectoryName.{DirectoryName}
use Rattle.nfs3_types.specs.declared.calls.MkDirArguments.{MkDirArguments}
use Rattle.nfs3_types.specs.declared.calls.SymLinkArguments.{SymLinkArguments}
use Rattle.file_tree.specs.Change.{Change}
use Rattle.file_tree.specs.Change.Change.{Keep, Put}
use Rattle.tree_nodes.specs.declared.node.Node.{Node}
use Rattle.tree_nodes.specs.declared.node.Content.{Content}
use Rattle.tree_nodes.specs.declared.node.Content.TheVariants as contents
use Rattle.tree_nodes.specs.declared.node.File.{File}
use Rattle.nfs3_types.specs.Limits.{file_limit}
use Rattle.tree_nodes.specs.Files.{node_limit, file_node}
use Rattle.tree_stores.specs.Files.{resized}
use Rattle.tree_nodes.specs.Tree.{Names, Tree, entry_of}
use Rattle.tree_answers.specs.tree_handles_specs.Binding.{Bindings, gives_object}
use Rattle.tree_answers.specs.tree_handles_specs.Live.{directory_of}
use Rattle.tree_starts.specs.Names.{is_plain}

-- a value where a test passes
abbrev pub only_if : {A : Type 0} → Bool → A → Option A
only_if b x = if b then Some x else None

-- CREATE, RFC 1813, section 3.3.8: a name that is absent is made a file with the call's object number, of zeros to the
-- size that is given, with the verifier of an exclusive call
abbrev pub first_size : CreateMode → ℕ
first_size (Unchecked attributes) = unwrap_or attributes.size 0
first_size (Guarded attributes) = unwrap_or attributes.size 0
first_size (Exclusive _) = 0

abbrev pub first_verifier : CreateMode → Option Verifier
first_verifier (Unchecked _) = None
first_verifier (Guarded _) = None
first_verifier (Exclusive verifier) = Some verifier

abbrev pub create_absent : Bindings → Tree → ℕ → CreateMode → Option (List ℕ) → Names → Option Change
create_absent binds tree number mode handle path =
    only_if (is_none (entry_of tree number) && nat_lt (map.len tree) node_limit && nat_le (first_size mode) file_limit && gives_object binds handle number)
    (Put path (file_node number (replicate (first_size mode) 0) (first_verifier mode)))

-- a name that is present: an unchecked call on a file sets the size that is given; an exclusive call finds the file that
-- the same verifier made; a guarded call has no success
abbrev pub set_size : Names → ℕ → File → Option ℕ → Option Change
set_size path object file None = Some Keep
set_size path object file (Some size) = only_if (nat_le size file_limit) (Put path (file_node object (resized file.bytes size) file.verifier))

abbrev pub made_by : Option Verifier → Verifier → Bool
made_by None verifier = false
made_by (Some first) verifier = first.value == verifier.value

abbrev pub create_over : CreateMode → Names → ℕ → File → Option Change
create_over (Unchecked attributes) path object file = set_size path object file attributes.size
create_over (Guarded _) path object file = None
create_over (Exclusive verifier) path object file = only_if (made_by file.verifier verifier) Keep

abbrev pub create_present : Bindings → CreateMode → Option (List ℕ) → Names → ℕ → Content → Option Change
create_present binds mode handle path object contents.Directory = None
create_present binds mode handle path object (contents.File file) = if gives_object binds handle object then create_over mode path object file else None
create_present binds mode handle path object (contents.Link _) = None

abbrev pub create_at : Bindings → Tree → ℕ → CreateMode → Option (List ℕ) → Names → Option Node → Option Change
create_at binds tree number mode handle path None = create_absent binds tree number mode handle path
create_at binds tree number mode handle path (Some node) = create_present binds mode handle path node.object node.content

abbrev pub create_change : Bindings → Tree → ℕ → CreateArguments → Option (List ℕ) → Option Change
create_change binds tree number call handle =
    option_and_then (λ directory. let path = directory ++ call.place.name ∷ [] in
    if is_plain call.place.name then create_at binds tree number call.mode handle path (map.get tree path) else None) (directory_of binds tree call.place.directory)

-- MKDIR and SYMLINK, RFC 1813, sections 3.3.9 and 3.3.10: a plain name that is absent gets a node with the call's object
-- number; a size among the attributes is ignored
abbrev pub make_entry : Bindings → Tree → ℕ → DirectoryName → Option (List ℕ) → Content → Option Change
make_entry binds tree number place handle content =
    option_and_then (λ directory. only_if (is_plain place.name && is_none (map.get tree (directory ++ place.name ∷ [])) && is_none (entry_of tree number)
    && nat_lt (map.len tree) node_limit && gives_object binds handle number)
    (Put (directory ++ place.name ∷ []) (record { object = number; content = content }))) (directory_of binds tree place.directory)

abbrev pub make_directory : Bindings → Tree → ℕ → MkDirArguments → Option (List ℕ) → Option Change
make_directory binds tree number call handle = make_entry binds tree number call.place handle contents.Directory

abbrev pub make_link : Bindings → Tree → ℕ → SymLinkArguments → Option (List ℕ) → Option Change
make_link binds tree number call handle = make_entry binds tree number call.place handle (contents.Link call.target)
