-- Believed.
-- What a reply says that is a success (RFC 1813, section 2.6: a result with status NFS3_OK has the fields of success behind it).
use Rattle.std.specs.Prelude.{◌&&◌, Bool, false, is_none, Option, Some, None}
use Rattle.nfs3_types.specs.declared.calls.NfsCall.{NfsCall}
use Rattle.nfs3_types.specs.declared.replies.WriteSuccess.{WriteSuccess}
use Rattle.nfs3_types.specs.declared.replies.CommitSuccess.{CommitSuccess}
use Rattle.nfs3_types.specs.declared.replies.Answer.TheVariants.{Done}
use Rattle.nfs3_types.specs.declared.replies.NfsReply.TheVariants as replies
use Rattle.nfs3_types.specs.declared.replies.Outcome.{Outcome}
use Rattle.nfs3_types.specs.declared.replies.Outcome.TheVariants as outcomes
use Rattle.nfs3_types.specs.Procedures.{is_answered, failure_in}

-- what a WRITE's reply says that is a success
abbrev pub write_success : Outcome → Option WriteSuccess
write_success (outcomes.Received (replies.Write (Done success))) = Some success
write_success outcome = None

-- what a COMMIT's reply says that is a success
abbrev pub commit_success : Outcome → Option CommitSuccess
commit_success (outcomes.Received (replies.Commit (Done success))) = Some success
commit_success outcome = None

-- a call was answered, and not by a failure
abbrev pub succeeded : NfsCall → Outcome → Bool
succeeded call (outcomes.Received reply) = is_answered call reply && is_none (failure_in reply)
succeeded call (outcomes.Taken count) = false
