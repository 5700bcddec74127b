-- For the prover, and for callers.
-- What a reply to MNT tells: the root of an export, or why there is none.
use Rattle.std.specs.Prelude.{◌≡◌, ℕ, Bool, true, false, List, Some, Result, Ok, Err}
use Rattle.xdr_records.specs.declared.fault.XdrFault.{XdrFault}
use Rattle.xdr_records.specs.Unread.{Unread, whole}
use Rattle.xdr_records.specs.Items.{end_at}
use Rattle.xdr_records.specs.Reading.{bound}
use Rattle.xdr_records.specs.Kinds.{kind_reading}
use Rattle.xdr_records.specs.Spelling.{Spells}
use Rattle.rpc_reader.specs.Values.{Body}
use Rattle.rpc_reader.specs.Values.Body.{success}
use Rattle.rpc_reader.specs.Messages.{IsReply, ReplyFails}
use Rattle.rpc_client.specs.Refusals.{refusal_in}
use Rattle.rpc_connection.specs.declared.fault.ConnectionFault.TheVariants.{NotRpc}
use Rattle.rpc_connection.specs.Answers.{IsReplyTo}
use Rattle.nfs3_types.specs.declared.bytes.FileHandle.{FileHandle}
use Rattle.mount_client.specs.declared.fault.MountFault.{MountFault}
use Rattle.mount_client.specs.declared.fault.MountFault.TheVariants as faults
use Rattle.mount_client.specs.declared.results.Told.{Told}
use Rattle.mount_client.specs.declared.results.Told.TheVariants as told
use Rattle.mount_client.specs.Mounting.{MountResult, mountres3}
use Rattle.mount_client.specs.Mounting.MountResult.{mounted, failed}
use Rattle.mount_client.specs.Statuses.{status_named}

-- the bytes are none of the results of MNT
abbrev pub IsNoResult : List ℕ → Type 0
IsNoResult results = (value : MountResult) → ¬ Spells mountres3 results value

-- what the results say: a root that can be used, or why there is none
abbrev pub IsTold : List ℕ → Result FileHandle MountFault → Type 0
IsTold results (Ok root) = Spells mountres3 results (mounted root true)
IsTold results (Err (faults.Status status)) = (number : ℕ) × Spells mountres3 results (failed number) × (status ≡ status_named number)
IsTold results (Err faults.NoAuthSys) = (root : List ℕ) × Spells mountres3 results (mounted root false)
IsTold results (Err faults.BadResult) = IsNoResult results
IsTold results (Err faults.NoMemory) = Unit {0}
IsTold results (Err other) = ⊥

-- the message is a reply of success, with such results
abbrev pub Results : List ℕ → (List ℕ → Type 0) → Type 0
Results message Say = (xid : ℕ) × (results : List ℕ) × IsReply message (record { xid = xid; body = success results }) × Say results

-- what a reply says
abbrev pub IsHeard : List ℕ → Result FileHandle MountFault → Type 0
IsHeard message (Err (faults.Refused refusal)) =
    (xid : ℕ) × (body : Body) × IsReply message (record { xid = xid; body = body }) × (refusal_in body ≡ Some refusal)
IsHeard message (Err (faults.Connection (NotRpc fault))) = ReplyFails message fault
IsHeard message (Err faults.NoMemory) = Unit {0}
IsHeard message told = Results message (λ results. IsTold results told)

-- a reply of success to the call gives the root
abbrev pub IsRootTold : List ℕ → Type 0
IsRootTold root = (message : List ℕ) × IsReplyTo 1 message × Results message (λ results. Spells mountres3 results (mounted root true))

-- ---- what private functions say to the prover

abbrev pub told_value : Told → MountResult
told_value (told.Mounted root is_taken) = mounted root.now is_taken
told_value (told.Failed number) = failed number

abbrev pub value_of : Result Told XdrFault → Result MountResult XdrFault
value_of (Ok it) = Ok (told_value it)
value_of (Err fault) = Err fault

abbrev pub ended : MountResult × Unread → Result MountResult XdrFault
ended read = bound (end_at read.1) (λ _. Ok read.0)

-- the result that is all of the bytes
abbrev pub result_of : List ℕ → Result MountResult XdrFault
result_of bytes = bound (kind_reading (λ fault. fault) mountres3 (whole bytes)) ended

-- what is read of all of the bytes
abbrev pub IsRead : List ℕ → Result Told XdrFault → Type 0
IsRead bytes (Ok it) = Spells mountres3 bytes (told_value it)
IsRead bytes (Err fault) = IsNoResult bytes
