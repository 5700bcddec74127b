-- Believed.
-- what a success tells of the tree, where the call leaves it: RFC 1813, section 3.3, by procedure
use Rattle.std.specs.Prelude.{ℕ, ◌+◌, ◌==◌, nat_le, Bool, true, false, not, ◌&&◌, if◌then◌else◌, List, length, take, drop, Option, is_some, option_map}
use Rattle.std.specs.Option.{option_map_or}
use Rattle.std.specs.FinMap as map
use Rattle.nfs3_types.specs.declared.attributes.FileType.TheVariants as types
use Rattle.nfs3_types.specs.declared.attributes.FileAttributes.{FileAttributes}
use Rattle.nfs3_types.specs.Numbers.{type_number}
use Rattle.nfs3_types.specs.declared.calls.ReadArguments.{ReadArguments}
use Rattle.nfs3_types.specs.declared.calls.DirectoryName.{DirectoryName}
use Rattle.nfs3_types.specs.declared.replies.Answer.TheVariants.{Done}
use Rattle.nfs3_types.specs.declared.replies.ReadSuccess.{ReadSuccess}
use Rattle.nfs3_types.specs.declared.replies.NfsReply.{NfsReply}
use Rattle.nfs3_types.specs.declared.replies.NfsReply.TheVariants as replies
use Rattle.tree_handles.specs.tree_nodes_specs.declared.node.Content.{Content}
use Rattle.tree_handles.specs.tree_nodes_specs.declared.node.Content.TheVariants as contents
use Rattle.tree_handles.specs.tree_nodes_specs.declared.node.Node.{Node}
use Rattle.tree_handles.specs.tree_nodes_specs.Tree.{Names, Tree, parent}
use Rattle.tree_handles.specs.Binding.{Bindings, same_bytes, is_bound}
use Rattle.tree_handles.specs.Live.{live_entry, directory_of, file_of}
use Rattle.tree_starts.specs.Names.{is_dot, is_two_dots}
use Rattle.tree_handles.specs.Entry.{entry_at}

-- GETATTR, RFC 1813, section 3.3.1: the type is the object's (`ftype3`, section 2.6), and a file's size is its length
abbrev pub shows : Content → FileAttributes → Bool
shows contents.Directory attributes = type_number attributes.file_type == type_number types.Directory
shows (contents.File file) attributes = (type_number attributes.file_type == type_number types.Regular) && (attributes.size == length file.bytes)
shows (contents.Link _) attributes = type_number attributes.file_type == type_number types.SymbolicLink

abbrev pub getattr_is_legal : Bindings → Tree → List ℕ → NfsReply → Bool
getattr_is_legal binds tree object (replies.GetAttr (Done attributes)) = option_map_or (λ e. shows e.1.content attributes) (live_entry binds tree object) false
getattr_is_legal binds tree object _ = false

-- LOOKUP, RFC 1813, section 3.3.3: the handle is bound to the object of the name; `.` is the directory itself, `..` the one
-- that it lies in
abbrev pub object_at : Option Node → Option ℕ
object_at node = option_map (λ n. n.object) node

abbrev pub object_named : Tree → Names → List ℕ → Option ℕ
object_named tree directory name =
    if is_dot name then object_at (map.get tree directory)
    else if is_two_dots name then object_at (map.get tree (parent directory))
    else object_at (entry_at tree directory name)

abbrev pub is_object_named : Bindings → Tree → DirectoryName → List ℕ → Names → Bool
is_object_named binds tree place handle directory = option_map_or (is_bound binds handle) (object_named tree directory place.name) false

abbrev pub lookup_is_legal : Bindings → Tree → DirectoryName → NfsReply → Bool
lookup_is_legal binds tree place (replies.Lookup (Done success)) =
    option_map_or (is_object_named binds tree place success.object) (directory_of binds tree place.directory) false
lookup_is_legal binds tree place _ = false

-- READLINK, RFC 1813, section 3.3.5: a link, with its text
abbrev pub has_text : Content → List ℕ → Bool
has_text contents.Directory text = false
has_text (contents.File _) text = false
has_text (contents.Link target) text = same_bytes target text

abbrev pub readlink_is_legal : Bindings → Tree → List ℕ → NfsReply → Bool
readlink_is_legal binds tree link (replies.ReadLink (Done success)) = option_map_or (λ e. has_text e.1.content success.target) (live_entry binds tree link) false
readlink_is_legal binds tree link _ = false

-- READ, RFC 1813, section 3.3.6: at most the bytes asked for, those of the file at the offset, with `eof` exactly where
-- they reach its end
abbrev pub same_flag : Bool → Bool → Bool
same_flag true b = b
same_flag false b = not b

abbrev pub read_is_right : List ℕ → ReadArguments → ReadSuccess → Bool
read_is_right bytes call success =
    let count = length success.bytes in
    (success.count == count) && nat_le count call.count && same_bytes success.bytes (take count (drop call.offset bytes))
    && same_flag success.eof (nat_le (length bytes) (call.offset + count))

abbrev pub read_is_legal : Bindings → Tree → ReadArguments → NfsReply → Bool
read_is_legal binds tree call (replies.Read (Done success)) = option_map_or (λ entry. read_is_right entry.file.bytes call success) (file_of binds tree call.file) false
read_is_legal binds tree call _ = false

-- COMMIT, RFC 1813, section 3.3.21: a file
abbrev pub commit_is_legal : Bindings → Tree → List ℕ → NfsReply → Bool
commit_is_legal binds tree file (replies.Commit (Done success)) = is_some (file_of binds tree file)
commit_is_legal binds tree file _ = false
