-- Believed.
-- what a call speaks of: RFC 1813, section 3.3, by procedure
use Rattle.std.specs.Prelude.{ℕ, Bool, true, false, ◌||◌, if◌then◌else◌, List, Option, Some, None, is_some, option_map}
use Rattle.nfs3_types.specs.declared.calls.DirectoryName.{DirectoryName}
use Rattle.nfs3_types.specs.declared.calls.NfsCall.{NfsCall}
use Rattle.nfs3_types.specs.declared.calls.NfsCall.TheVariants as calls

-- the first handle of a call
abbrev pub first_handle : NfsCall → List ℕ
first_handle (calls.GetAttr object) = object
first_handle (calls.SetAttr call) = call.object
first_handle (calls.Lookup place) = place.directory
first_handle (calls.ReadLink link) = link
first_handle (calls.Read call) = call.file
first_handle (calls.Write call) = call.file
first_handle (calls.Create call) = call.place.directory
first_handle (calls.MkDir call) = call.place.directory
first_handle (calls.SymLink call) = call.place.directory
first_handle (calls.Remove place) = place.directory
first_handle (calls.RmDir place) = place.directory
first_handle (calls.Rename call) = call.from.directory
first_handle (calls.ReadDir call) = call.directory
first_handle (calls.ReadDirPlus call) = call.directory
first_handle (calls.Commit call) = call.file

-- the first place that it names, and RENAME's second one
abbrev pub first_place : NfsCall → Option DirectoryName
first_place (calls.Lookup place) = Some place
first_place (calls.Create call) = Some call.place
first_place (calls.MkDir call) = Some call.place
first_place (calls.SymLink call) = Some call.place
first_place (calls.Remove place) = Some place
first_place (calls.RmDir place) = Some place
first_place (calls.Rename call) = Some call.from
first_place _ = None

abbrev pub second_place : NfsCall → Option DirectoryName
second_place (calls.Rename call) = Some call.to
second_place _ = None

abbrev pub second_handle : NfsCall → Option (List ℕ)
second_handle call = option_map (λ place. place.directory) (second_place call)

-- whether it lists a directory
abbrev pub is_listing_call : NfsCall → Bool
is_listing_call (calls.ReadDir _) = true
is_listing_call (calls.ReadDirPlus _) = true
is_listing_call _ = false

-- the first handle has to be that of a directory
abbrev pub wants_directory : NfsCall → Bool
wants_directory call = is_some (first_place call) || is_listing_call call

-- the handle that has to be that of a file: of READ, WRITE and COMMIT, and of a SETATTR with a size
abbrev pub file_wanted : NfsCall → Option (List ℕ)
file_wanted (calls.Read call) = Some call.file
file_wanted (calls.Write call) = Some call.file
file_wanted (calls.Commit call) = Some call.file
file_wanted (calls.SetAttr call) = if is_some call.attributes.size then Some call.object else None
file_wanted _ = None

-- the place that has to have an entry: of LOOKUP, REMOVE and RMDIR, and the source of a RENAME
abbrev pub entry_wanted : NfsCall → Option DirectoryName
entry_wanted (calls.Lookup place) = Some place
entry_wanted (calls.Remove place) = Some place
entry_wanted (calls.RmDir place) = Some place
entry_wanted (calls.Rename call) = Some call.from
entry_wanted _ = None
