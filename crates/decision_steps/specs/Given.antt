-- Believed.
-- the handles that a success gives, each with the object that it has to name there: RFC 1813, sections 3.3.3, 3.3.8 to 3.3.10 and
-- 3.3.17
use Rattle.std.specs.Prelude.{ℕ, List, [], ◌∷◌, Option, Some, None, option_and_then}
use Rattle.std.specs.Option.{option_map_or}
use Rattle.std.specs.List.{flat_map}
use Rattle.nfs3_types.specs.declared.calls.DirectoryName.{DirectoryName}
use Rattle.nfs3_types.specs.declared.calls.NfsCall.{NfsCall}
use Rattle.nfs3_types.specs.declared.calls.NfsCall.TheVariants as calls
use Rattle.nfs3_types.specs.declared.replies.Answer.TheVariants.{Done}
use Rattle.nfs3_types.specs.declared.replies.DirectoryEntryPlus.{DirectoryEntryPlus}
use Rattle.nfs3_types.specs.declared.replies.NfsReply.{NfsReply}
use Rattle.nfs3_types.specs.declared.replies.NfsReply.TheVariants as replies
use Rattle.nfs3_types.specs.declared.replies.Outcome.{Outcome}
use Rattle.nfs3_types.specs.declared.replies.Outcome.TheVariants.{Received, Taken}
use Rattle.tree_nodes.specs.Tree.{Names, Tree}
use Rattle.tree_handles.specs.Binding.{Bindings}
use Rattle.tree_handles.specs.Entry.{entry_at, named}
use Rattle.tree_handles.specs.Live.{directory_of}
use Rattle.tree_answers.specs.Look.{object_named}

-- a handle of this object, if the reply gives one
abbrev pub given_as : Option (List ℕ) → ℕ → List (List ℕ × ℕ)
given_as None object = []
given_as (Some handle) object = (handle, object) ∷ []

-- the object that a LOOKUP finds
abbrev pub object_found : Bindings → Tree → DirectoryName → Option ℕ
object_found binds tree place = option_and_then (λ directory. object_named tree directory place.name) (directory_of binds tree place.directory)

-- the object of a CREATE: the one that stands at the name, or the new one
abbrev pub object_created : Bindings → Tree → ℕ → DirectoryName → ℕ
object_created binds tree number place = option_map_or (λ e. e.1.object) (named binds tree place) number

-- the handle beside an entry of a READDIRPLUS: those beside `.` and `..` may be of any object
abbrev pub given_beside : Tree → Names → DirectoryEntryPlus → List (List ℕ × ℕ)
given_beside tree directory entry = option_map_or (λ node. given_as entry.object node.object) (entry_at tree directory entry.name) []

-- the handles of a reply to a call that would make the object of this number
abbrev pub given_in : Bindings → Tree → ℕ → NfsCall → NfsReply → List (List ℕ × ℕ)
given_in binds tree number (calls.Lookup place) (replies.Lookup (Done success)) =
    option_map_or (λ object. (success.object, object) ∷ []) (object_found binds tree place) []
given_in binds tree number (calls.Create call) (replies.Create (Done success)) = given_as success.object (object_created binds tree number call.place)
given_in binds tree number (calls.MkDir call) (replies.MkDir (Done success)) = given_as success.object number
given_in binds tree number (calls.SymLink call) (replies.SymLink (Done success)) = given_as success.object number
given_in binds tree number (calls.ReadDirPlus call) (replies.ReadDirPlus (Done success)) =
    option_map_or (λ directory. flat_map (given_beside tree directory) success.entries) (directory_of binds tree call.directory) []
given_in binds tree number call reply = []

-- those of an outcome: a call that was taken without a reply gives none
abbrev pub given : Bindings → Tree → ℕ → NfsCall → Outcome → List (List ℕ × ℕ)
given binds tree number call (Received reply) = given_in binds tree number call reply
given binds tree number call (Taken count) = []
