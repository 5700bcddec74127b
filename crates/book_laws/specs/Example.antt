-- For the prover, and for callers.
-- A book to which the laws apply: a CREATE begins, is placed, is put on stable storage and is answered.
use Rattle.tree_starts.specs.declared.profile.Profile.TheVariants.{Plain}
use Rattle.std.specs.Prelude.{ℕ, List, [], ◌∷◌, Some, None, IsSome}
use Rattle.nfs3_types.specs.declared.calls.CreateMode.TheVariants.{Exclusive}
use Rattle.nfs3_types.specs.declared.calls.NfsCall.{NfsCall}
use Rattle.nfs3_types.specs.declared.calls.NfsCall.TheVariants as calls
use Rattle.nfs3_types.specs.declared.replies.Answer.TheVariants.{Done}
use Rattle.nfs3_types.specs.declared.replies.NfsReply.{NfsReply}
use Rattle.nfs3_types.specs.declared.replies.NfsReply.TheVariants as replies
use Rattle.nfs3_types.specs.declared.replies.Outcome.TheVariants.{Received}
use Rattle.nfs3_types.specs.Procedures.{nfs_program, nfs_version}
use Rattle.rpc_reader.specs.Texts.{call_text}
use Rattle.nfs3_msgs.specs.Messages.{arguments_text}
use Rattle.nfs_history.specs.Calls.{xid_of}
use Rattle.book_laws.specs.Book.{Book, handle_of, tree_of}
use Rattle.book_laws.specs.Steps.{with_call, with_reply, step_of, reply_message, journal_record, opening_book, IsRun}

-- CREATE of the name `f` in the root, with a verifier, and its reply with the handle of object 1
abbrev pub create : NfsCall
create = calls.Create (record { place = record { directory = handle_of 0; name = 102 ∷ [] }; mode = Exclusive (record { value = 7 }) })

abbrev pub created : NfsReply
created = replies.Create (Done (record { object = Some (handle_of 1); attributes = None; wcc = record { before = None; after = None } }))

-- its message, of transaction 1 to procedure 8 of NFS version 3
abbrev pub asked : List ℕ
asked = call_text 1 nfs_program nfs_version 8 (arguments_text create)

abbrev pub answer : List ℕ
answer = reply_message (xid_of asked) created

-- the call begins on lane 1
abbrev pub after_begin : Book
after_begin = record (opening_book Plain [] 0) { history = with_call (opening_book Plain [] 0).history 1 asked create }

-- is placed, with its record
abbrev pub after_place : Book
after_place =
    record after_begin {
      placed = step_of 1 create created ∷ [];
      made = 1 ∷ [];
      device = record { records = journal_record 1 asked answer ∷ []; mark = 0; faults = 0 };
    }

-- the record is safe
abbrev pub after_flush : Book
after_flush = record after_place { device = record { records = journal_record 1 asked answer ∷ []; mark = 1; faults = 0 } }

-- and the reply goes out
abbrev pub after_answer : Book
after_answer = record after_flush { history = with_reply after_flush.history 1 1 answer (Received created) }

abbrev pub books : List Book
books = after_begin ∷ after_place ∷ after_flush ∷ after_answer ∷ []

-- these are a run, and its end has a tree
pub record PremisesAreMet : Type 0 where
  pub run : IsRun (opening_book Plain [] 0) books
  pub tree : IsSome (tree_of after_answer)
