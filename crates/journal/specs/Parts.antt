-- For the prover.
-- the parts of a change's messages, for private functions
use Rattle.std.specs.Prelude.{◌≡◌, ◌==◌, ◌&&◌, not, if◌then◌else◌, ℕ, Bool, true, List, Option, Some, None}
use Rattle.rpc_reader.specs.Values.{CallValue, ReplyValue, sealed_flavor}
use Rattle.rpc_reader.specs.Values.Body.{success}
use Rattle.rpc_reader.specs.Messages.{IsCall, IsReply}
use Rattle.nfs3_types.specs.declared.calls.NfsCall.{NfsCall}
use Rattle.nfs3_types.specs.declared.replies.NfsReply.{NfsReply}
use Rattle.nfs3_types.specs.Procedures.{nfs_program, nfs_version, failure_in, changes_the_tree}
use Rattle.nfs3_msgs.specs.Messages.{IsArguments, IsResult}
use Rattle.nfs_history.specs.Effects.{results_of}
use Rattle.nfs_history.specs.Outside.{outside}

abbrev pub asks_change : CallValue → Bool
asks_change head = (head.program == nfs_program) && (head.version == nfs_version) && not (head.flavor == sealed_flavor) && changes_the_tree head.procedure

-- a call that would change the tree
pub record AsksChange (message : List ℕ) (head : CallValue) : Type 0 where
  pub asked : IsCall message head
  pub change : asks_change head ≡ true

-- its arguments, inside the model
pub record IsAsked (procedure : ℕ) (bytes : List ℕ) (call : NfsCall) : Type 0 where
  pub arguments : IsArguments procedure bytes call
  pub inside : outside call None ≡ None

-- the results in an accepted reply with this transaction number
abbrev pub AreResults : ℕ → List ℕ → List ℕ → Type 0
AreResults xid message results = IsReply message (record { xid = xid; body = success results })

-- the same of a reply that was read
abbrev pub results_to : ℕ → ReplyValue → Option (List ℕ)
results_to xid reply = if reply.xid == xid then results_of (Some reply.body) else None

-- a success of the procedure
pub record IsSuccess (procedure : ℕ) (results : List ℕ) (reply : NfsReply) : Type 0 where
  pub result : IsResult procedure results reply
  pub succeeded : failure_in reply ≡ None
