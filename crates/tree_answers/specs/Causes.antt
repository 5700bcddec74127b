-- Believed.
-- why a call may fail in a tree: RFC 1813, section 3.3, by procedure, and section 2.6 on the statuses
use Rattle.std.specs.Prelude.{ℕ, ◌==◌, nat_lt, Bool, true, false, not, ◌&&◌, ◌||◌, List, Option, is_some, is_none, option_map}
use Rattle.std.specs.Option.{option_map_or}
use Rattle.std.specs.List.{list_any}
use Rattle.nfs3_types.specs.declared.calls.CreateMode.{CreateMode}
use Rattle.nfs3_types.specs.declared.calls.CreateMode.TheVariants.{Unchecked, Guarded, Exclusive}
use Rattle.nfs3_types.specs.declared.calls.DirectoryName.{DirectoryName}
use Rattle.nfs3_types.specs.declared.calls.NfsCall.{NfsCall}
use Rattle.nfs3_types.specs.declared.calls.NfsCall.TheVariants as calls
use Rattle.tree_handles.specs.tree_nodes_specs.declared.node.Node.{Node}
use Rattle.tree_handles.specs.tree_nodes_specs.declared.node.Content.{Content}
use Rattle.tree_handles.specs.tree_nodes_specs.Tree.{Names, Tree, is_bare}
use Rattle.tree_handles.specs.Binding.{Bindings}
use Rattle.tree_handles.specs.Live.{live_entry, directory_of}
use Rattle.tree_starts.specs.Names.{is_plain}
use Rattle.tree_handles.specs.Entry.{named}
use Rattle.tree_handles.specs.Kind.{is_directory, is_file, is_link}
use Rattle.tree_answers.specs.Asked.{first_handle, second_handle, first_place, second_place, wants_directory, file_wanted, entry_wanted}

-- what a live handle names
abbrev pub content_of : Bindings → Tree → List ℕ → Option Content
content_of binds tree handle = option_map (λ e. e.1.content) (live_entry binds tree handle)

-- a handle of the call isn't live
abbrev pub isnt_live : Bindings → Tree → List ℕ → Bool
isnt_live binds tree handle = is_none (live_entry binds tree handle)

abbrev pub handle_isnt_live : Bindings → Tree → NfsCall → Bool
handle_isnt_live binds tree call = isnt_live binds tree (first_handle call) || option_map_or (isnt_live binds tree) (second_handle call) false

-- a live handle isn't that of the directory that it has to be
abbrev pub is_of_no_directory : Bindings → Tree → List ℕ → Bool
is_of_no_directory binds tree handle = option_map_or (λ content. not (is_directory content)) (content_of binds tree handle) false

abbrev pub handle_of_no_directory : Bindings → Tree → NfsCall → Bool
handle_of_no_directory binds tree call =
    (wants_directory call && is_of_no_directory binds tree (first_handle call)) || option_map_or (is_of_no_directory binds tree) (second_handle call) false

-- READLINK of what is there and is no link
abbrev pub readlink_of_no_link : Bindings → Tree → NfsCall → Bool
readlink_of_no_link binds tree (calls.ReadLink link) = option_map_or (λ content. not (is_link content)) (content_of binds tree link) false
readlink_of_no_link binds tree _ = false

-- READ, WRITE, COMMIT, or SETATTR with a size, of a directory
abbrev pub is_of_directory : Bindings → Tree → List ℕ → Bool
is_of_directory binds tree handle = option_map_or is_directory (content_of binds tree handle) false

abbrev pub file_is_directory : Bindings → Tree → NfsCall → Bool
file_is_directory binds tree call = option_map_or (is_of_directory binds tree) (file_wanted call) false

-- the same, of a link
abbrev pub is_of_link : Bindings → Tree → List ℕ → Bool
is_of_link binds tree handle = option_map_or is_link (content_of binds tree handle) false

abbrev pub file_is_link : Bindings → Tree → NfsCall → Bool
file_is_link binds tree call = option_map_or (is_of_link binds tree) (file_wanted call) false

-- the name of a LOOKUP, a REMOVE, an RMDIR or a RENAME's source is no entry of the live directory
abbrev pub is_absent : Bindings → Tree → DirectoryName → Bool
is_absent binds tree place = is_some (directory_of binds tree place.directory) && is_none (named binds tree place)

abbrev pub name_is_absent : Bindings → Tree → NfsCall → Bool
name_is_absent binds tree call = option_map_or (is_absent binds tree) (entry_wanted call) false

-- the name that a CREATE, a MKDIR or a SYMLINK would make is an entry, other than a file before an unchecked CREATE
abbrev pub stops : CreateMode → Content → Bool
stops (Unchecked _) content = not (is_file content)
stops (Guarded _) content = true
stops (Exclusive _) content = true

abbrev pub name_is_present : Bindings → Tree → NfsCall → Bool
name_is_present binds tree (calls.Create call) = option_map_or (λ e. stops call.mode e.1.content) (named binds tree call.place) false
name_is_present binds tree (calls.MkDir call) = is_some (named binds tree call.place)
name_is_present binds tree (calls.SymLink call) = is_some (named binds tree call.place)
name_is_present binds tree _ = false

-- an unchecked CREATE of a directory's name
abbrev pub is_unchecked : CreateMode → Bool
is_unchecked (Unchecked _) = true
is_unchecked (Guarded _) = false
is_unchecked (Exclusive _) = false

abbrev pub create_over_directory : Bindings → Tree → NfsCall → Bool
create_over_directory binds tree (calls.Create call) = option_map_or (λ e. is_unchecked call.mode && is_directory e.1.content) (named binds tree call.place) false
create_over_directory binds tree _ = false

-- REMOVE of a directory
abbrev pub remove_of_directory : Bindings → Tree → NfsCall → Bool
remove_of_directory binds tree (calls.Remove place) = option_map_or (λ e. is_directory e.1.content) (named binds tree place) false
remove_of_directory binds tree _ = false

-- RMDIR of an entry that is no directory
abbrev pub rmdir_of_no_directory : Bindings → Tree → NfsCall → Bool
rmdir_of_no_directory binds tree (calls.RmDir place) = option_map_or (λ e. not (is_directory e.1.content)) (named binds tree place) false
rmdir_of_no_directory binds tree _ = false

-- RMDIR of a directory that isn't empty
abbrev pub is_filled_directory : Tree → Names × Node → Bool
is_filled_directory tree e = is_directory e.1.content && not (is_bare tree e.0)

abbrev pub rmdir_of_filled_directory : Bindings → Tree → NfsCall → Bool
rmdir_of_filled_directory binds tree (calls.RmDir place) = option_map_or (is_filled_directory tree) (named binds tree place) false
rmdir_of_filled_directory binds tree _ = false

-- a name is empty, `.` or `..`
abbrev pub isnt_plain : DirectoryName → Bool
isnt_plain place = not (is_plain place.name)

abbrev pub name_isnt_plain : NfsCall → Bool
name_isnt_plain call = option_map_or isnt_plain (first_place call) false || option_map_or isnt_plain (second_place call) false

-- a name holds byte 0, a slash or a byte above 127
abbrev pub is_odd : ℕ → Bool
is_odd byte = (byte == 0) || (byte == 47) || nat_lt 127 byte

abbrev pub has_odd_byte : DirectoryName → Bool
has_odd_byte place = list_any is_odd place.name

abbrev pub name_has_odd_byte : NfsCall → Bool
name_has_odd_byte call = option_map_or has_odd_byte (first_place call) false || option_map_or has_odd_byte (second_place call) false

-- SETATTR with a guard, whose time the tree doesn't know
abbrev pub setattr_with_guard : NfsCall → Bool
setattr_with_guard (calls.SetAttr call) = is_some call.guard
setattr_with_guard _ = false

-- READDIR or READDIRPLUS that goes on behind a cookie
abbrev pub listing_with_cookie : NfsCall → Bool
listing_with_cookie (calls.ReadDir call) = not (call.cookie == 0)
listing_with_cookie (calls.ReadDirPlus call) = not (call.cookie == 0)
listing_with_cookie _ = false
