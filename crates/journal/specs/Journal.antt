-- Believed.
-- A record of a server's journal: a call that changed the tree, with its reply (this project's own, in the items of RFC 4506).
use Rattle.std.specs.Prelude.{◌≡◌, ◌==◌, ◌||◌, ℕ, ◌<◌, ◌≤◌, ◌^◌, Bool, true, List, ◌++◌, length, None}
use Rattle.xdr_records.specs.Grammar.{Grammar, ◌>>=◌}
use Rattle.xdr_records.specs.Grammar.Grammar.{one_long, nothing}
use Rattle.xdr_records.specs.Spelling.{Spells}
use Rattle.xdr_records.specs.Texts.{long_text, opaque_text}
use Rattle.xdr_records.specs.Record.{record_limit}
use Rattle.rpc_reader.specs.Values.{CallValue}
use Rattle.rpc_reader.specs.Values.Body.{success}
use Rattle.rpc_reader.specs.Messages.{IsCall, IsReply}
use Rattle.nfs3_types.specs.declared.calls.NfsCall.{NfsCall}
use Rattle.nfs3_types.specs.declared.replies.NfsReply.{NfsReply}
use Rattle.nfs3_types.specs.Procedures.{changes_the_tree, failure_in}
use Rattle.nfs3_values.specs.declared.fault.Kind.{Kind}
use Rattle.nfs3_values.specs.Bytes.{file_data}
use Rattle.nfs3_msgs.specs.Messages.{IsResult}
use Rattle.nfs_history.specs.History.{IsCallOfNfs}
use Rattle.nfs_history.specs.Outside.{outside}
use Rattle.journal.specs.declared.text.JournalRecord.{JournalRecord}
use Rattle.journal.specs.declared.change.Change.{Change}

-- the call's number as an unsigned hyper integer, its message and the reply's as opaque data with no limit: RFC 4506, sections 4.5 and 4.10
unfoldable pub journal_record : Grammar Kind JournalRecord
journal_record = do
  number ← one_long
  call ← file_data
  reply ← file_data
  nothing (record { number = number; call = call; reply = reply })

unfoldable pub record_text : JournalRecord → List ℕ
record_text r = long_text r.number ++ (opaque_text r.call ++ opaque_text r.reply)

unfoldable pub RecordFits : JournalRecord → Type 0
RecordFits r = (r.number < 2 ^ 64) × (length r.call < 2 ^ 32) × (length r.reply < 2 ^ 32)

-- the messages are a call that changes the tree, which a history file can hold and of which a history can be read whatever its reply, and a
-- reply to it that is a success of its procedure
pub record IsChange (call_message reply_message : List ℕ) (call : NfsCall) (reply : NfsReply) : Type 0 where
  pub within : length call_message ≤ record_limit
  pub head : CallValue
  pub asked : IsCall call_message head
  pub of_nfs : IsCallOfNfs head call
  pub changing : changes_the_tree head.procedure ≡ true
  pub inside : outside call None ≡ None
  pub results : List ℕ
  pub answered : IsReply reply_message (record { xid = head.xid; body = success results })
  pub result : IsResult head.procedure results reply
  pub succeeded : failure_in reply ≡ None

-- the bytes are the record of this change
pub record IsJournalRecord (bytes : List ℕ) (change : Change) : Type 0 where
  pub spelled : Spells journal_record bytes change.written
  pub changed : IsChange change.written.call change.written.reply change.call change.reply
