-- Believed.
-- the tree after a call that succeeded: RFC 1813, section 3.3, by procedure
use Rattle.std.specs.Prelude.{ℕ, ◌&&◌, Option, Some, None, option_map}
use Rattle.std.specs.FinMap as map
use Rattle.nfs3_types.specs.declared.calls.WriteArguments.{WriteArguments}
use Rattle.nfs3_types.specs.declared.calls.CreateArguments.{CreateArguments}
use Rattle.nfs3_types.specs.declared.calls.DirectoryName.{DirectoryName}
use Rattle.nfs3_types.specs.declared.calls.SetAttrArguments.{SetAttrArguments}
use Rattle.nfs3_types.specs.declared.calls.MkDirArguments.{MkDirArguments}
use Rattle.nfs3_types.specs.declared.calls.SymLinkArguments.{SymLinkArguments}
use Rattle.nfs3_types.specs.declared.calls.RenameArguments.{RenameArguments}
use Rattle.nfs3_types.specs.declared.calls.NfsCall.{NfsCall}
use Rattle.nfs3_types.specs.declared.calls.NfsCall.TheVariants as calls
use Rattle.nfs3_types.specs.declared.replies.Answer.TheVariants.{Done}
use Rattle.nfs3_types.specs.declared.replies.NfsReply.{NfsReply}
use Rattle.nfs3_types.specs.declared.replies.NfsReply.TheVariants as replies
use Rattle.nfs3_types.specs.declared.replies.Outcome.{Outcome}
use Rattle.nfs3_types.specs.declared.replies.Outcome.TheVariants.{Received, Taken}
use Rattle.file_tree.specs.Change.{Change}
use Rattle.file_tree.specs.Change.Change.{Keep, Put, Remove, Move}
use Rattle.tree_nodes.specs.Tree.{Tree}
use Rattle.tree_nodes.specs.Moved.{moved}
use Rattle.tree_answers.specs.tree_handles_specs.Binding.{Bindings}
use Rattle.tree_answers.specs.Look.{getattr_is_legal, lookup_is_legal, readlink_is_legal, read_is_legal, commit_is_legal}
use Rattle.nfs3_types.specs.Procedures.{is_answered, failure_in}
use Rattle.tree_answers.specs.Failure.{is_permitted}
use Rattle.nfs3_types.specs.declared.status.Failure.{Failure}
use Rattle.tree_answers.specs.Listing.{readdir_is_legal, readdirplus_is_legal}
use Rattle.file_tree.specs.Made.{only_if, create_change, make_directory, make_link}
use Rattle.file_tree.specs.Written.{set_attributes, write_change}
use Rattle.file_tree.specs.Removed.{remove_entry, remove_directory, rename}

-- what a success of a call that changes the tree makes of it
abbrev pub change_written : Bindings → Tree → WriteArguments → NfsReply → Option Change
change_written binds tree call (replies.Write (Done success)) = write_change binds tree call success.count (Some success.level)
change_written binds tree call _ = None

abbrev pub change_created : Bindings → Tree → ℕ → CreateArguments → NfsReply → Option Change
change_created binds tree number call (replies.Create (Done success)) = create_change binds tree number call success.object
change_created binds tree number call _ = None

abbrev pub change_set : Bindings → Tree → SetAttrArguments → NfsReply → Option Change
change_set binds tree call (replies.SetAttr (Done _)) = set_attributes binds tree call
change_set binds tree call _ = None

abbrev pub change_directory_made : Bindings → Tree → ℕ → MkDirArguments → NfsReply → Option Change
change_directory_made binds tree number call (replies.MkDir (Done success)) = make_directory binds tree number call success.object
change_directory_made binds tree number call _ = None

abbrev pub change_link_made : Bindings → Tree → ℕ → SymLinkArguments → NfsReply → Option Change
change_link_made binds tree number call (replies.SymLink (Done success)) = make_link binds tree number call success.object
change_link_made binds tree number call _ = None

abbrev pub change_removed : Bindings → Tree → DirectoryName → NfsReply → Option Change
change_removed binds tree place (replies.Remove (Done _)) = remove_entry binds tree place
change_removed binds tree place _ = None

abbrev pub change_directory_removed : Bindings → Tree → DirectoryName → NfsReply → Option Change
change_directory_removed binds tree place (replies.RmDir (Done _)) = remove_directory binds tree place
change_directory_removed binds tree place _ = None

abbrev pub change_renamed : Bindings → Tree → RenameArguments → NfsReply → Option Change
change_renamed binds tree call (replies.Rename (Done _)) = rename binds tree call
change_renamed binds tree call _ = None

-- what a success makes of the tree
abbrev pub change_done : Bindings → Tree → ℕ → NfsCall → NfsReply → Option Change
change_done binds tree number (calls.GetAttr object) reply = only_if (getattr_is_legal binds tree object reply) Keep
change_done binds tree number (calls.Lookup place) reply = only_if (lookup_is_legal binds tree place reply) Keep
change_done binds tree number (calls.ReadLink link) reply = only_if (readlink_is_legal binds tree link reply) Keep
change_done binds tree number (calls.Read call) reply = only_if (read_is_legal binds tree call reply) Keep
change_done binds tree number (calls.ReadDir call) reply = only_if (readdir_is_legal binds tree call reply) Keep
change_done binds tree number (calls.ReadDirPlus call) reply = only_if (readdirplus_is_legal binds tree call reply) Keep
change_done binds tree number (calls.Commit call) reply = only_if (commit_is_legal binds tree call.file reply) Keep
change_done binds tree number (calls.Write call) reply = change_written binds tree call reply
change_done binds tree number (calls.Create call) reply = change_created binds tree number call reply
change_done binds tree number (calls.SetAttr call) reply = change_set binds tree call reply
change_done binds tree number (calls.MkDir call) reply = change_directory_made binds tree number call reply
change_done binds tree number (calls.SymLink call) reply = change_link_made binds tree number call reply
change_done binds tree number (calls.Remove place) reply = change_removed binds tree place reply
change_done binds tree number (calls.RmDir place) reply = change_directory_removed binds tree place reply
change_done binds tree number (calls.Rename call) reply = change_renamed binds tree call reply

-- what a received reply makes of it: a failure that is permitted leaves it
abbrev pub change_answered : Bindings → Tree → ℕ → NfsCall → NfsReply → Option Failure → Option Change
change_answered binds tree number call reply None = change_done binds tree number call reply
change_answered binds tree number call reply (Some failure) = only_if (is_answered call reply && is_permitted binds tree call failure) Keep

abbrev pub change_received : Bindings → Tree → ℕ → NfsCall → NfsReply → Option Change
change_received binds tree number call reply = change_answered binds tree number call reply (failure_in reply)

-- what a call that was taken makes of it: its success, without a handle or a level
abbrev pub change_taken : Bindings → Tree → ℕ → NfsCall → Option ℕ → Option Change
change_taken binds tree number (calls.Write call) (Some count) = write_change binds tree call count None
change_taken binds tree number (calls.Create call) None = create_change binds tree number call None
change_taken binds tree number (calls.SetAttr call) None = set_attributes binds tree call
change_taken binds tree number (calls.MkDir call) None = make_directory binds tree number call None
change_taken binds tree number (calls.SymLink call) None = make_link binds tree number call None
change_taken binds tree number (calls.Remove place) None = remove_entry binds tree place
change_taken binds tree number (calls.RmDir place) None = remove_directory binds tree place
change_taken binds tree number (calls.Rename call) None = rename binds tree call
change_taken binds tree number _ _ = None

abbrev pub change_of : Bindings → Tree → ℕ → NfsCall → Outcome → Option Change
change_of binds tree number call (Received reply) = change_received binds tree number call reply
change_of binds tree number call (Taken count) = change_taken binds tree number call count

-- the tree after a change
abbrev pub changed : Tree → Change → Tree
changed tree Keep = tree
changed tree (Put path node) = map.insert tree path node
changed tree (Remove path) = map.remove tree path
changed tree (Move p q) = moved tree p q

-- the tree after a call of this number with this outcome, where there is one
abbrev pub next_tree : Bindings → Tree → ℕ → NfsCall → Outcome → Option Tree
next_tree binds tree number call outcome = option_map (changed tree) (change_of binds tree number call outcome)
