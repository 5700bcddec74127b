-- Believed.
-- What an exchange tells, a call with the reply to it (RFC 1813, sections 3.3.1, 3.3.3, 3.3.5, 3.3.6, 3.3.16 and 3.3.17).
use Rattle.std.specs.Prelude.{ℕ, ◌==◌, ◌&&◌, ◌||◌, ◌-◌, Bool, true, false, if◌then◌else◌, List, [], ◌∷◌, length, slice_get, Option, Some, None, option_map}
use Rattle.std.specs.Option.{option_map_or}
use Rattle.std.specs.List.{flat_map}
use Rattle.nfs3_types.specs.declared.attributes.Verifier.{Verifier}
use Rattle.nfs3_types.specs.declared.calls.NfsCall.{NfsCall}
use Rattle.nfs3_types.specs.declared.calls.NfsCall.TheVariants as calls
use Rattle.nfs3_types.specs.declared.replies.Answer.TheVariants.{Done}
use Rattle.nfs3_types.specs.declared.replies.DirectoryEntryPlus.{DirectoryEntryPlus}
use Rattle.nfs3_types.specs.declared.replies.NfsReply.{NfsReply}
use Rattle.nfs3_types.specs.declared.replies.NfsReply.TheVariants as replies
use Rattle.nfs3_types.specs.Numbers.{type_number}
use Rattle.tree_starts.specs.Names.{same_bytes, is_plain}
use Rattle.walk_accounts.specs.declared.account.Kind.{Kind}
use Rattle.walk_accounts.specs.declared.account.Kind.TheVariants as kinds
use Rattle.walk_accounts.specs.declared.exchange.Cursor.{Cursor}
use Rattle.walk_accounts.specs.declared.exchange.Exchange.{Exchange}
use Rattle.walk_accounts.specs.declared.exchange.Page.{Page}
use Rattle.walk_accounts.specs.declared.exchange.Page.TheVariants.{Other, Last, More}

-- READ: whether it asks for the bytes of a file from an offset on, which bytes it gave, and whether these reach the end of the file
abbrev pub asks_bytes : List ℕ → ℕ → NfsCall → Bool
asks_bytes file offset (calls.Read asked) = same_bytes asked.file file && (asked.offset == offset)
asks_bytes file offset _ = false

abbrev pub bytes_in : NfsReply → List ℕ
bytes_in (replies.Read (Done success)) = success.bytes
bytes_in _ = []

abbrev pub is_at_end : NfsReply → Bool
is_at_end (replies.Read (Done success)) = success.eof
is_at_end _ = false

-- READLINK: whether it asks for the text of a link, whether it succeeded, and which text it gave
abbrev pub asks_text : List ℕ → NfsCall → Bool
asks_text link (calls.ReadLink asked) = same_bytes asked link
asks_text link _ = false

abbrev pub is_text : NfsReply → Bool
is_text (replies.ReadLink (Done success)) = true
is_text _ = false

abbrev pub text_in : NfsReply → List ℕ
text_in (replies.ReadLink (Done success)) = success.target
text_in _ = []

-- GETATTR: whether it asks for the attributes of an object, and whether these tell a kind and a size
abbrev pub asks_attributes : List ℕ → NfsCall → Bool
asks_attributes object (calls.GetAttr asked) = same_bytes asked object
asks_attributes object _ = false

abbrev pub kind_number : Kind → ℕ
kind_number kinds.File = 1
kind_number kinds.Directory = 2
kind_number kinds.Link = 5

abbrev pub tells : Kind → ℕ → NfsReply → Bool
tells kind size (replies.GetAttr (Done attributes)) = (type_number attributes.file_type == kind_number kind) && (attributes.size == size)
tells kind size _ = false

-- LOOKUP: whether it asks for a name in a directory, and whether it gave a handle
abbrev pub asks_name : List ℕ → List ℕ → NfsCall → Bool
asks_name directory name (calls.Lookup asked) = same_bytes asked.directory directory && same_bytes asked.name name
asks_name directory name _ = false

abbrev pub finds : List ℕ → NfsReply → Bool
finds handle (replies.Lookup (Done success)) = same_bytes success.object handle
finds handle _ = false

-- READDIRPLUS: whether it asks for a list of a directory, and whether an entry of its reply gives a name and a handle
abbrev pub asks_entries : List ℕ → NfsCall → Bool
asks_entries directory (calls.ReadDirPlus asked) = same_bytes asked.directory directory
asks_entries directory _ = false

abbrev pub is_entry : List ℕ → List ℕ → DirectoryEntryPlus → Bool
is_entry name handle entry = same_bytes entry.name name && option_map_or (λ object. same_bytes object handle) entry.object false

abbrev pub has_entry : List ℕ → List ℕ → ℕ → NfsReply → Bool
has_entry name handle index (replies.ReadDirPlus (Done success)) = option_map_or (is_entry name handle) (slice_get success.entries index) false
has_entry name handle index _ = false

-- whether an exchange gives a handle for a name of a directory: a LOOKUP, or entry `index` of a READDIRPLUS
abbrev pub gives : List ℕ → List ℕ → List ℕ → ℕ → Exchange → Bool
gives directory name handle index e =
    (asks_name directory name e.call && finds handle e.reply) || (asks_entries directory e.call && has_entry name handle index e.reply)

-- READDIR and READDIRPLUS: whether it asks for a page of a directory's list from a cursor (a cookie with its verifier) on
abbrev pub is_cursor : Cursor → ℕ → Verifier → Bool
is_cursor cursor cookie verifier = (cookie == cursor.cookie) && (verifier.value == cursor.verifier.value)

abbrev pub asks_page : List ℕ → Cursor → NfsCall → Bool
asks_page directory cursor (calls.ReadDir asked) = same_bytes asked.directory directory && is_cursor cursor asked.cookie asked.verifier
asks_page directory cursor (calls.ReadDirPlus asked) = same_bytes asked.directory directory && is_cursor cursor asked.cookie asked.verifier
asks_page directory cursor _ = false

-- what comes behind a page: nothing where it reaches the end, else the page from the last entry's cookie on
abbrev pub page_from : Verifier → Option ℕ → Page
page_from verifier None = Other
page_from verifier (Some cookie) = More (record { cookie = cookie; verifier = verifier })

abbrev pub page_end : Bool → Verifier → Option ℕ → Page
page_end eof verifier cookie = if eof then Last else page_from verifier cookie

abbrev pub page_in : NfsReply → Page
page_in (replies.ReadDir (Done success)) =
    page_end success.eof success.verifier (option_map (λ entry. entry.cookie) (slice_get success.entries (length success.entries - 1)))
page_in (replies.ReadDirPlus (Done success)) =
    page_end success.eof success.verifier (option_map (λ entry. entry.cookie) (slice_get success.entries (length success.entries - 1)))
page_in _ = Other

abbrev pub page_of : List ℕ → Cursor → Exchange → Page
page_of directory cursor e = if asks_page directory cursor e.call then page_in e.reply else Other

-- the names that a list gives in the directory of a number; `.` and `..` are none
abbrev pub place : ℕ → List ℕ → List (ℕ × List ℕ)
place directory name = if is_plain name then (directory, name) ∷ [] else []

abbrev pub places_in : ℕ → NfsReply → List (ℕ × List ℕ)
places_in directory (replies.ReadDir (Done success)) = flat_map (λ entry. place directory entry.name) success.entries
places_in directory (replies.ReadDirPlus (Done success)) = flat_map (λ entry. place directory entry.name) success.entries
places_in directory _ = []
