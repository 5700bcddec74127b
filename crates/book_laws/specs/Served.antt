-- Believed.
-- Which replies a server that keeps a book gives: those that RFC 1813, section 3.3, allows, as full as can be (this project's own; that a READ
-- gives at most so many bytes is too).
use Rattle.std.specs.Prelude.{◌≡◌, ◌⊎◌, ◌<◌, ℕ, true, length, take, drop, Option, Some, None}
use Rattle.nfs3_types.specs.declared.calls.NfsCall.{NfsCall}
use Rattle.nfs3_types.specs.declared.calls.NfsCall.TheVariants as calls
use Rattle.nfs3_types.specs.declared.replies.Answer.TheVariants.{Done}
use Rattle.nfs3_types.specs.declared.replies.NfsReply.{NfsReply}
use Rattle.nfs3_types.specs.declared.replies.NfsReply.TheVariants as replies
use Rattle.nfs3_types.specs.declared.status.Failure.{Failure}
use Rattle.nfs3_types.specs.declared.status.Failure.TheVariants as status
use Rattle.nfs3_types.specs.Limits.{transfer_limit}
use Rattle.nfs3_types.specs.Procedures.{failure_in}
use Rattle.tree_nodes.specs.Tree.{Tree}
use Rattle.tree_handles.specs.Binding.{Bindings}
use Rattle.tree_handles.specs.Live.{FileEntry, file_of}
use Rattle.tree_answers.specs.Asked.{is_listing_call}
use Rattle.file_tree.specs.Allows.{AllowsSuccess}

-- a success that does all that was asked for: a WRITE of all its data, a READ of all the bytes that the file has there
abbrev pub IsFull : Bindings → Tree → NfsCall → NfsReply → Type 0
IsFull binds tree (calls.Write call) (replies.Write (Done success)) = success.count ≡ length call.bytes
IsFull binds tree (calls.Read call) (replies.Read (Done success)) =
    (entry : FileEntry) → file_of binds tree call.file ≡ Some entry → success.bytes ≡ take transfer_limit (take call.count (drop call.offset entry.file.bytes))
IsFull binds tree call reply = Unit {0}

-- a SYMLINK with a text over the limit
abbrev pub HasLongText : NfsCall → Type 0
HasLongText (calls.SymLink call) = transfer_limit < length call.target
HasLongText call = ⊥

-- a failure of a call that can't succeed; a list may also be too small for what it has to hold, and a link's text too long
abbrev pub IsFailed : Bindings → Tree → ℕ → NfsCall → Failure → Type 0
IsFailed binds tree number call failure =
    ¬ AllowsSuccess binds tree number call ⊎ ((is_listing_call call ≡ true) × (failure ≡ status.TooSmall)) ⊎ (HasLongText call × (failure ≡ status.NameTooLong))

abbrev pub serves : Bindings → Tree → ℕ → NfsCall → NfsReply → Option Failure → Type 0
serves binds tree number call reply None = IsFull binds tree call reply
serves binds tree number call reply (Some failure) = IsFailed binds tree number call failure

-- the server may give the call this reply
abbrev pub IsServed : Bindings → Tree → ℕ → NfsCall → NfsReply → Type 0
IsServed binds tree number call reply = serves binds tree number call reply (failure_in reply)
