-- what handles name in a tree
use Rattle.std.proofs.Common.{◌≡◌, ℕ, List, Some, sym, ap, ◌∙◌, subst}
use Rattle.std.specs.Prelude.{◌==◌}
use Rattle.std.specs.FinMap as map
use Rattle.tree_nodes.specs.declared.node.Node.{Node}
use Rattle.tree_nodes.specs.declared.node.File.{File}
use Rattle.tree_nodes.specs.declared.node.Content.{Content}
use Rattle.tree_nodes.specs.declared.node.Content.TheVariants as contents
use Rattle.tree_nodes.specs.Tree.{Names, Tree, entry_of}
use Rattle.tree_handles.specs.Binding.{Bindings, object_of}
use Rattle.tree_handles.specs.Live.{FileEntry, live_entry, as_directory, directory_of, as_file, file_of}
use Rattle.tree_laws.specs.WellFormed.{IsDirectoryAt}
use Rattle.tree_nodes.proofs.Chains.{chained}
use Rattle.tree_nodes.proofs.Found.{found_stands}
use Rattle.tree_handles.proofs.Standing.{own_number}

pub live_stands : (binds : Bindings) (tree : Tree) (handle : List ℕ) (e : Names × Node) → live_entry binds tree handle ≡ Some e → map.get tree e.0 ≡ Some e.1
live_stands binds tree handle e h =
    let found = chained (entry_of tree) (object_of binds handle) e h in
    found_stands tree (λ x. x.1.object == found.0) e found.2

directory_is : (tree : Tree) (path : Names) (object : ℕ) (content : Content) (d : Names) → map.get tree path ≡ Some (record { object = object; content = content }) → as_directory path content ≡ Some d
    → IsDirectoryAt tree d
directory_is tree path object contents.Directory d there e =
    let same : path ≡ d = cc in
    record { object = object; stands = subst (λ (z : Names). map.get tree z ≡ Some (record { object = object; content = contents.Directory })) same there }
directory_is tree path object (contents.File _) d there e = absurd (cc)
directory_is tree path object (contents.Link _) d there e = absurd (cc)

pub directory_stands : (binds : Bindings) (tree : Tree) (handle : List ℕ) (d : Names) → directory_of binds tree handle ≡ Some d → IsDirectoryAt tree d
directory_stands binds tree handle d h =
    let live = chained (λ e. as_directory e.0 e.1.content) (live_entry binds tree handle) d h in
    directory_is tree live.0.0 live.0.1.object live.0.1.content d (live_stands binds tree handle live.0 live.1) live.2

-- a file stands at a path
abbrev pub IsFileAt : Tree → Names → ℕ → File → Type 0
IsFileAt tree path object file = map.get tree path ≡ Some (record { object = object; content = contents.File file })

file_is : (tree : Tree) (path : Names) (object : ℕ) (content : Content) (f : FileEntry) → map.get tree path ≡ Some (record { object = object; content = content }) → as_file path object content ≡ Some f
    → IsFileAt tree f.path f.object f.file
file_is tree path object contents.Directory f there e = absurd (cc)
file_is tree path object (contents.File file) f there e = subst (λ (x : FileEntry). IsFileAt tree x.path x.object x.file) (same e) there where
  same : Some (record { path = path; object = object; file = file }) ≡ Some f → record { path = path; object = object; file = file } ≡ f
  same h = cc
file_is tree path object (contents.Link _) f there e = absurd (cc)

pub file_stands : (binds : Bindings) (tree : Tree) (handle : List ℕ) (f : FileEntry) → file_of binds tree handle ≡ Some f → IsFileAt tree f.path f.object f.file
file_stands binds tree handle f h =
    let live = chained (λ e. as_file e.0 e.1.object e.1.content) (live_entry binds tree handle) f h in
    file_is tree live.0.0 live.0.1.object live.0.1.content f (live_stands binds tree handle live.0 live.1) live.2

-- the file that a handle names has the object that it is bound to
pub names_object : (binds : Bindings) (tree : Tree) (handle : List ℕ) (f : FileEntry) → file_of binds tree handle ≡ Some f → object_of binds handle ≡ Some f.object
names_object binds tree handle f h =
    let live = chained (λ e. as_file e.0 e.1.object e.1.content) (live_entry binds tree handle) f h in
    let found = chained (entry_of tree) (object_of binds handle) live.0 live.1 in
    found.1 ∙ ap Some (sym (own_number tree found.0 live.0 found.2) ∙ as_object live.0.0 live.0.1.object live.0.1.content live.2) where
      as_object : (path : Names) (object : ℕ) (content : _) → as_file path object content ≡ Some f → object ≡ f.object
      as_object path object contents.Directory e = absurd (cc)
      as_object path object (contents.File file) e = cc
      as_object path object (contents.Link _) e = absurd (cc)
