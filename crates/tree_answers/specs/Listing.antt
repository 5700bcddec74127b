-- Believed.
-- what READDIR and READDIRPLUS list: RFC 1813, sections 3.3.16 and 3.3.17
use Rattle.std.specs.Prelude.{ℕ, ◌==◌, Bool, true, false, not, ◌&&◌, ◌||◌, List, [], ◌∷◌, length, slice_index_or, is_some, map}
use Rattle.std.specs.Option.{option_map_or}
use Rattle.std.specs.List.{list_any, list_all}
use Rattle.std.specs.FinMap as finite
use Rattle.nfs3_types.specs.declared.calls.ReadDirArguments.{ReadDirArguments}
use Rattle.nfs3_types.specs.declared.calls.ReadDirPlusArguments.{ReadDirPlusArguments}
use Rattle.nfs3_types.specs.declared.replies.Answer.TheVariants.{Done}
use Rattle.nfs3_types.specs.declared.replies.DirectoryEntryPlus.{DirectoryEntryPlus}
use Rattle.nfs3_types.specs.declared.replies.ReadDirSuccess.{ReadDirSuccess}
use Rattle.nfs3_types.specs.declared.replies.ReadDirPlusSuccess.{ReadDirPlusSuccess}
use Rattle.nfs3_types.specs.declared.replies.NfsReply.{NfsReply}
use Rattle.nfs3_types.specs.declared.replies.NfsReply.TheVariants as replies
use Rattle.tree_handles.specs.tree_nodes_specs.Tree.{Names, Tree, is_in}
use Rattle.tree_handles.specs.Binding.{Bindings, same_bytes, gives_object}
use Rattle.tree_handles.specs.Live.{directory_of}
use Rattle.tree_starts.specs.Names.{is_dot, is_two_dots}
use Rattle.tree_handles.specs.Entry.{entry_at}

abbrev pub is_among : List (List ℕ) → List ℕ → Bool
is_among names name = list_any (λ other. same_bytes other name) names

-- no name stands twice
abbrev pub are_distinct : List (List ℕ) → Bool
are_distinct [] = true
are_distinct (name ∷ names) = not (is_among names name) && are_distinct names

-- each name is `.`, `..` or an entry's
abbrev pub may_be_listed : Tree → Names → List ℕ → Bool
may_be_listed tree directory name = is_dot name || is_two_dots name || is_some (entry_at tree directory name)

-- the name of each entry of the directory is there
abbrev pub is_listed : List (List ℕ) → Names → Names → Bool
is_listed names directory path = not (is_in path directory) || is_among names (slice_index_or path (length directory) [])

abbrev pub are_all_listed : Tree → Names → List (List ℕ) → Bool
are_all_listed tree directory names = list_all (λ e. is_listed names directory e.0) (finite.entries tree)

-- a list that begins at the front (cookie 0) and comes to the end names every entry
abbrev pub is_listing : Tree → Names → ℕ → Bool → List (List ℕ) → Bool
is_listing tree directory cookie eof names =
    are_distinct names && list_all (may_be_listed tree directory) names && (not ((cookie == 0) && eof) || are_all_listed tree directory names)

-- READDIR, RFC 1813, section 3.3.16
abbrev pub listed_names : ReadDirSuccess → List (List ℕ)
listed_names success = map (λ e. e.name) success.entries

abbrev pub readdir_is_legal : Bindings → Tree → ReadDirArguments → NfsReply → Bool
readdir_is_legal binds tree call (replies.ReadDir (Done success)) =
    option_map_or (λ directory. is_listing tree directory call.cookie success.eof (listed_names success)) (directory_of binds tree call.directory) false
readdir_is_legal binds tree call _ = false

-- READDIRPLUS, RFC 1813, section 3.3.17: a handle beside an entry is bound to its object; those beside `.` and `..` aren't
-- judged
abbrev pub listed_names_plus : ReadDirPlusSuccess → List (List ℕ)
listed_names_plus success = map (λ e. e.name) success.entries

abbrev pub has_its_handle : Bindings → Tree → Names → DirectoryEntryPlus → Bool
has_its_handle binds tree directory entry = option_map_or (λ node. gives_object binds entry.object node.object) (entry_at tree directory entry.name) true

abbrev pub readdirplus_is_legal : Bindings → Tree → ReadDirPlusArguments → NfsReply → Bool
readdirplus_is_legal binds tree call (replies.ReadDirPlus (Done success)) =
    option_map_or (λ directory. is_listing tree directory call.cookie success.eof (listed_names_plus success)
    && list_all (has_its_handle binds tree directory) success.entries) (directory_of binds tree call.directory) false
readdirplus_is_legal binds tree call _ = false
