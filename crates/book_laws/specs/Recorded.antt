-- For the prover, and for callers.
-- The records of a journal are those of the calls that changed the tree.
use Rattle.tree_starts.specs.Start.{IsStart}
use Rattle.tree_starts.specs.declared.object.StartObject.{StartObject}
use Rattle.tree_starts.specs.declared.profile.Profile.{Profile}
use Rattle.std.specs.Prelude.{◌≡◌, ℕ, List, [], ◌∷◌, ◌++◌, filter, Some}
use Rattle.std.specs.List.{AllByRecursion}
use Rattle.nfs3_types.specs.declared.replies.NfsReply.{NfsReply}
use Rattle.nfs3_types.specs.declared.replies.Outcome.TheVariants.{Received}
use Rattle.nfs_history.specs.declared.recorded.RecordedCall.{RecordedCall}
use Rattle.nfs_history.specs.Precedence.{call_at}
use Rattle.replay_law.specs.Run.{kept_steps}
use Rattle.book_laws.specs.Placing.{Placed, is_recorded}
use Rattle.book_laws.specs.Book.{Book}
use Rattle.book_laws.specs.Steps.{HasMessage, journal_record, reply_message, opening_book, IsRun}

-- the calls that changed the tree, in the serial order: those that the crashes so far kept, and those that were placed since
abbrev pub changes_of : Book → List Placed
changes_of book = filter is_recorded (kept_steps book.over ++ book.placed)

-- the bytes are the record of the call: its number, the message with which it began, and the reply that it was given
pub record IsRecordOf (book : Book) (bytes : List ℕ) (step : Placed) : Type 0 where
  pub call : RecordedCall
  pub recorded : call_at book.history.known.calls step.number ≡ Some call
  pub message : List ℕ
  pub sent : HasMessage book call message
  pub reply : NfsReply
  pub received : step.outcome ≡ Received reply
  pub written : bytes ≡ journal_record step.number message (reply_message call.xid reply)

-- each of these records is that of the call at its place, and there are no more
abbrev pub AreRecordsOf : Book → List (List ℕ) → List Placed → Type 0
AreRecordsOf book [] [] = Unit {0}
AreRecordsOf book (bytes ∷ records) (step ∷ steps) = IsRecordOf book bytes step × AreRecordsOf book records steps
AreRecordsOf book records steps = ⊥

-- the device holds the records of the calls that changed the tree, in their order
abbrev pub HasItsChanges : Book → Type 0
HasItsChanges book = AreRecordsOf book book.device.records (changes_of book)

abbrev pub ItsRecordsAreItsChanges : Type 0
ItsRecordsAreItsChanges =
    (profile : Profile) (start : List StartObject) (faults : ℕ) (books : List Book) → IsStart start → IsRun (opening_book profile start faults) books
    → HasItsChanges (opening_book profile start faults) × AllByRecursion HasItsChanges books
