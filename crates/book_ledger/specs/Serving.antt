-- For the prover, and for callers.
-- What the test of a served reply says to the prover.
use Rattle.std.specs.Prelude.{◌≡◌, ◌⊎◌, ℕ, true, length, take, drop, Some}
use Rattle.nfs3_types.specs.declared.calls.ReadArguments.{ReadArguments}
use Rattle.nfs3_types.specs.declared.calls.WriteArguments.{WriteArguments}
use Rattle.nfs3_types.specs.declared.replies.Answer.TheVariants.{Done}
use Rattle.nfs3_types.specs.declared.replies.ReadSuccess.{ReadSuccess}
use Rattle.nfs3_types.specs.declared.replies.NfsReply.TheVariants as replies
use Rattle.tree_handles.specs.Live.{FileEntry, file_of}
use Rattle.nfs3_types.specs.declared.calls.NfsCall.{NfsCall}
use Rattle.nfs3_types.specs.declared.replies.NfsReply.{NfsReply}
use Rattle.nfs3_types.specs.declared.replies.Outcome.TheVariants.{Received}
use Rattle.nfs3_types.specs.declared.status.Failure.{Failure}
use Rattle.nfs3_types.specs.declared.status.Failure.TheVariants as status
use Rattle.nfs3_types.specs.Limits.{transfer_limit}
use Rattle.tree_nodes.specs.Tree.{Tree}
use Rattle.tree_handles.specs.Binding.{Bindings}
use Rattle.tree_answers.specs.Asked.{is_listing_call}
use Rattle.file_tree.specs.Success.{next_tree}
use Rattle.book_laws.specs.Served.{HasLongText}

-- the tree allows the reply
abbrev pub IsAllowed : Bindings → Tree → NfsCall → NfsReply → Type 0
IsAllowed binds tree call reply = (number : ℕ) × (after : Tree) × (next_tree binds tree number call (Received reply) ≡ Some after)

-- a failure that may be given though the call can succeed
abbrev pub IsFree : NfsCall → Failure → Type 0
IsFree call failure = ((is_listing_call call ≡ true) × (failure ≡ status.TooSmall)) ⊎ (HasLongText call × (failure ≡ status.NameTooLong))

-- as many bytes as the file has there, of those asked for, within the limit
abbrev pub HasAll : Bindings → Tree → ReadArguments → ReadSuccess → Type 0
HasAll binds tree call success =
    (entry : FileEntry) → file_of binds tree call.file ≡ Some entry
    → length success.bytes ≡ length (take transfer_limit (take call.count (drop call.offset entry.file.bytes)))

abbrev pub ReadsAll : Bindings → Tree → ReadArguments → NfsReply → Type 0
ReadsAll binds tree call (replies.Read (Done success)) = HasAll binds tree call success
ReadsAll binds tree call reply = Unit {0}

abbrev pub WritesAll : WriteArguments → NfsReply → Type 0
WritesAll call (replies.Write (Done success)) = success.count ≡ length call.bytes
WritesAll call reply = Unit {0}
